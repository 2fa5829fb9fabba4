-- The report of a missing client contradicts nobody's modes.
use Rattle.krl_refinement.proofs.Names.{◌≡◌, ◌≢◌, ℕ, Bool, true, false, not, List, [], ◌∷◌, ◌++◌, map, Option, Some, None, refl, sym, ap, subst, ◌∙◌, arith, ◌||◌, cond, nat_eq, eqb-false}
use Rattle.krl_refinement.proofs.Names.{nat_tests, none-some, list_all, END, compatible, Value, Pieces, ToServer, Record, is_slot, record_of, max_clients, mode_at, column}
use Rattle.krl_refinement.proofs.Names.{is_compatible_there, rebuilt, adopted, conflicts, RangesAgree, KeysAgree, Recovering, Link, IsSlot, Logged, WorldInv, MaySeize, no_alarm_of, slots_agree}
use Rattle.krl_refinement.proofs.Names.{Server, lists, IsSound, report_of, Stands, IsRecord, machine_phase, view, Shows, world_of}
use Rattle.std.specs.Ordering.{nat_cmp, eq_by_cmp}
use Rattle.std.specs.FinMap.Entries.{find}
use Rattle.std.specs.FinMap as fin
use Rattle.krl_messages.specs.declared.to_server.ToServerBody.TheVariants as said
use Rattle.krl_machine.specs.Tables as machine
use Rattle.krl_table.proofs.Rows.Below.{below_true}
use Rattle.krl_refinement.proofs.Server.Follows.{listed_phase}
use Rattle.krl_refinement.proofs.Server.Meaning.{range_is, key_is}
use Rattle.krl_refinement.proofs.Server.Reported.{adopted_at, report_shown}

or_true : (a b : Bool) → (a ≡ false → b ≡ true) → (a || b) ≡ true
or_true true b h = refl
or_true false b h = h refl

still : (b : Bool) (v : Value) (o : Option Value) → o ≢ None → cond b (Some v) o ≢ None
still true v o some e = none-some v (sym e)
still false v o some e = some e

-- a test that passes at each key and at END passes at each slot
at_keys : (p : ℕ → Bool) (es : List (ℕ × Value)) → ((n : ℕ) → find nat_cmp n es ≢ None → p n ≡ true) → p END ≡ true → list_all p (map (λ e. e.0) es ++ END ∷ []) ≡ true
at_keys p [] h e = rw e refl
at_keys p (x ∷ xs) h e =
    let same : eq_by_cmp nat_cmp x.0 x.0 ≡ true = grind (arith, nat_tests) in
    let found : find nat_cmp x.0 (x ∷ xs) ≡ Some x.1 = rw same refl in
    let here : p x.0 ≡ true = h x.0 (λ none. none-some x.1 (sym none ∙ found)) in
    rw here (at_keys p xs (λ n some. h n (still (eq_by_cmp nat_cmp n x.0) x.1 (find nat_cmp n xs) some)) e)

pub no_conflict : (s : Server) (of : ℕ → Link) (log : List Logged) (m : ToServer) (epoch : ℕ) (pieces : Pieces) (r : Record) → WorldInv (world_of s of log) → Shows s of → IsSound s → record_of s.durable.register m.client ≡ Some r → m.incarnation ≡ r.incarnation → epoch ≡ s.durable.epoch → lists s.missing m.client ≡ true → Stands (of m.client) m.incarnation (said.Report epoch pieces) → conflicts s.durable.index s.rows m.client pieces ≡ false
no_conflict s of log m epoch pieces r inv shows sound known same now missing stands =
    let c = m.client in
    let index = s.durable.index in
    let phase = machine_phase s.missing in
    let on : phase ≡ Recovering = listed_phase s.missing c missing in
    let record_is : IsRecord (Some r) (of c) = subst (λ o. IsRecord o (of c)) known (shows.link c).known in
    let may : MaySeize (view s) (of c) (report_of m.incarnation epoch pieces) = record { sent = stands.0; recovering = on; missing = (shows.link c).missing ∙ missing; inc = same ∙ sym record_is.reg; epoch = now } in
    let built = report_shown index s.durable.epoch phase sound.near s.rows c m.incarnation epoch pieces stands.1 in
    -- on each slot
    let beside : (n : ℕ) → IsSlot (view s) n → (d : ℕ) → d ≢ c → compatible (rebuilt index pieces n) (mode_at s.rows n d) ≡ true = λ n slot d ne.
    let agree : (q : ℕ) → RangesAgree (machine.range_at (view s) (column (adopted index s.rows c pieces) c) q) (machine.range_at (view s) (column s.rows d) q) × KeysAgree (machine.key_at (view s) (column (adopted index s.rows c pieces) c) q) (machine.key_at (view s) (column s.rows d) q) = λ q.
    subst (λ x. RangesAgree (machine.range_at (view s) (column (adopted index s.rows c pieces) c) q) x × KeysAgree (machine.key_at (view s) (column (adopted index s.rows c pieces) c) q) (machine.key_at (view s) (column s.rows d) q)) ((shows.link d).new_range on q ∙ range_is index s.durable.epoch phase sound.near s.rows d q)
    (subst (λ x. RangesAgree (machine.range_at (view s) (column (adopted index s.rows c pieces) c) q) ((of d).new_range q) × KeysAgree (machine.key_at (view s) (column (adopted index s.rows c pieces) c) q) x) ((shows.link d).new_key on q ∙ key_is index s.durable.epoch phase sound.near s.rows d q)
    (no_alarm_of (world_of s of log) inv c (report_of m.incarnation epoch pieces) (machine.range_at (view s) (column (adopted index s.rows c pieces) c)) (machine.key_at (view s) (column (adopted index s.rows c pieces) c)) may built d ne q)) in
    subst (λ g. compatible g (mode_at s.rows n d) ≡ true) (adopted_at index s.durable.epoch phase sound.near s.rows c m.incarnation epoch pieces stands.1 n slot (is_slot index n) refl)
    (slots_agree (view s) sound.near (column (adopted index s.rows c pieces) c) (column s.rows d) agree n slot) in
    let fit : (n : ℕ) → IsSlot (view s) n → is_compatible_there s.rows n c (rebuilt index pieces n) ≡ true = λ n slot.
    below_true max_clients (λ d. nat_eq d c || compatible (rebuilt index pieces n) (mode_at s.rows n d)) (λ d. or_true (nat_eq d c) (compatible (rebuilt index pieces n) (mode_at s.rows n d)) (λ e. beside n slot d (eqb-false d c e))) in
    ap not (at_keys (λ n. is_compatible_there s.rows n c (rebuilt index pieces n)) (fin.entries index) (λ n some. fit n (λ far none. some (sym (fin.get-entries index n) ∙ none))) (fit END (λ far. absurd (far refl))))
