-- What a grant takes, and what each raise of it leaves as it was.
use Rattle.krl_server.proofs.Names.{◌≡◌, ◌≢◌, ℕ, zero, suc, ◌-◌, ◌≤◌, ◌<◌, Bool, true, false, not, ◌&&◌, ◌||◌, None, List, [], ◌∷◌, ◌++◌, take, length, refl, sym, ap, subst, ◌∙◌, ⊎_elim, arith, nat_eq}
use Rattle.krl_server.proofs.Names.{eq-eqb, ltb-true, cases_lt, and_parts, nat_tests, nat_lt, nat_le, is_some, if◌then◌else◌, filter, AllByRecursion, nat_cmp, find, END, needs_entry, Value, Waiter}
use Rattle.krl_server.proofs.Names.{eq_cases, Index, first_or_end, slot_of, low_of, is_slot, Rows, mode_at, set_row, with_mode, wanted, grant_first, granted_first, raised, raised_on}
use Rattle.krl_server.proofs.Names.{is_wanted_compatible, Durable, Server, holding, holdings, find_here, find_past, IsWhole}
use Rattle.krl_table.proofs.Invariant.Compatible.{mode_other}
use Rattle.std.specs.FinMap as fin
use Rattle.krl_table.specs.Grants.{nobody_waits, is_open_to, goes_on, reached_after, reached_slots, granted, reached_by, granted_by}
use Rattle.krl_durable.specs.Writes.{IsReach}
use Rattle.krl_table.proofs.Rows.Slots.{low_under}
use Rattle.krl_table.proofs.Calls.Reaches.{slot_after, reached_raised}
use Rattle.krl_messages.specs.Ascending.{IsBefore, Ascend}
use Rattle.krl_modes.specs.declared.limits.TheConstants.{MAX_HOLDINGS}
use Rattle.krl_server.proofs.Slots.{is_slot_true, span_here}
use Rattle.krl_server.proofs.Updates.{row_here, row_other, row_modes}
use Rattle.krl_server.proofs.Tests.{if_case}
use mathlib.Core.Bool.{or-true}

-- The next slot

found : (es : List (ℕ × Value)) (p : ℕ) → (nat_eq (first_or_end (filter (λ e. nat_le p e.0) es)) END || is_some (find nat_cmp (first_or_end (filter (λ e. nat_le p e.0) es)) es)) ≡ true
found [] p = ap (λ b. b || false) (eq-eqb END END refl)
found (e ∷ es) p = by_test (nat_le p e.0) (found es p)
  where
    s : ℕ
    s = first_or_end (filter (λ e. nat_le p e.0) es)

    by_test : (b : Bool) → (nat_eq s END || is_some (find nat_cmp s es)) ≡ true → (nat_eq (first_or_end (if b then e ∷ filter (λ e. nat_le p e.0) es else filter (λ e. nat_le p e.0) es)) END || is_some (find nat_cmp (first_or_end (if b then e ∷ filter (λ e. nat_le p e.0) es else filter (λ e. nat_le p e.0) es)) (e ∷ es))) ≡ true
    by_test true ih = ap (λ o. nat_eq e.0 END || is_some o) (find_here e es) ∙ or-true (nat_eq e.0 END)
    by_test false ih = eq_cases s e.0
        (λ f. subst (λ k. (nat_eq k END || is_some (find nat_cmp k (e ∷ es))) ≡ true) (sym f) (ap (λ o. nat_eq e.0 END || is_some o) (find_here e es) ∙ or-true (nat_eq e.0 END)))
        (λ ne. ap (λ o. nat_eq s END || is_some o) (find_past s e es ne) ∙ ih)

-- the slot of a point is one by the test
pub slot_always : (m : Index) (p : ℕ) → is_slot m (slot_of m p) ≡ true
slot_always m p = ap (λ o. nat_eq (slot_of m p) END || is_some o) (fin.get-entries m (slot_of m p)) ∙ found (fin.entries m) p

-- no slot lies above END
pub slot_near : (m : Index) → ((q : ℕ) → END ≤ q → fin.get m q ≡ None) → (n : ℕ) → is_slot m n ≡ true → n ≤ END
slot_near m near n e = ⊎_elim
    (λ (a : END < n). absurd (is_slot_true m near n e (λ f. omega (arith, f, a)) (near n (omega (arith, a)))))
    (λ (a : n ≤ END). a)
    (cases_lt END n)

-- Rows

pub raised_queue : (rows : Rows) (n : ℕ) (u : Waiter) (k : ℕ) → (raised rows n u k).queue ≡ (rows k).queue
raised_queue rows n u k = eq_cases k n
    (λ e. subst (λ x. (raised rows n u x).queue ≡ (rows x).queue) (sym e) (ap (λ r. r.queue) (row_here rows n (with_mode (rows n) u.client (wanted (rows n) u)))))
    (λ ne. ap (λ r. r.queue) (row_other rows n (with_mode (rows n) u.client (wanted (rows n) u)) k ne))

pub raised_others : (rows : Rows) (n : ℕ) (u : Waiter) (d : ℕ) → d ≢ u.client → (k : ℕ) → mode_at rows k d ≡ mode_at (raised rows n u) k d
raised_others rows n u d ne k = row_modes rows n (with_mode (rows n) u.client (wanted (rows n) u)) d (sym (mode_other (rows n).modes u.client d (wanted (rows n) u) ne)) k

raised_on_queue : (rows : Rows) (ns : List ℕ) (u : Waiter) (k : ℕ) → (raised_on rows ns u k).queue ≡ (rows k).queue
raised_on_queue rows [] u k = refl
raised_on_queue rows (n ∷ ns) u k = raised_on_queue (raised rows n u) ns u k ∙ raised_queue rows n u k

-- a grant takes one waiter from its slot, and no other
pub granted_queue : (r : ℕ) (m : Index) (rows : Rows) (n k : ℕ) → (granted r m rows n k).queue ≡ (granted_first rows n k).queue
granted_queue r m rows n k = by_queue (rows n).queue refl
  where
    by_queue : (us : List Waiter) → (rows n).queue ≡ us → (granted_by r m rows n us k).queue ≡ (granted_first rows n k).queue
    by_queue [] e = eq_cases k n
        (λ f. subst (λ x. (rows x).queue ≡ (granted_first rows n x).queue) (sym f) (sym (ap (λ r. r.queue) (row_here rows n (grant_first (rows n) (rows n).queue)) ∙ ap (λ q. (grant_first (rows n) q).queue) e)))
        (λ ne. ap (λ r. r.queue) (sym (row_other rows n (grant_first (rows n) (rows n).queue) k ne)))
    by_queue (u ∷ us) e = raised_on_queue (granted_first rows n) (reached_after m (granted_first rows n) n u (r - 1)) u k

-- The slots that are taken, one after another

-- slots above this point, in ascending order
abbrev pub AreSlotsAfter : Index → ℕ → List ℕ → Type 0
AreSlotsAfter m low [] = Unit {0}
AreSlotsAfter m low (n ∷ ns) = (low < n) × (is_slot m n ≡ true) × AreSlotsAfter m n ns

module _ (m : Index) (u : Waiter) where
  -- the grant continues to the next slot
  pub on_to : (rows : Rows) (n : ℕ) → goes_on m rows n u ≡ true → (n < slot_of m (suc n)) × (is_slot m (slot_of m (suc n)) ≡ true) × (is_wanted_compatible rows (slot_of m (suc n)) u ≡ true)
  on_to rows n e =
      let x = and_parts (nat_lt n END) (nat_lt (suc n) u.hi && is_open_to rows (slot_of m (suc n)) u) e in
      let y = and_parts (nat_lt (suc n) u.hi) (is_open_to rows (slot_of m (suc n)) u) x.1 in
      let z = and_parts (nobody_waits (rows (slot_of m (suc n))).queue) (is_wanted_compatible rows (slot_of m (suc n)) u && not (needs_entry u.mode && nat_eq (slot_of m (suc n)) END)) y.1 in
      (slot_after m n x.0, slot_always m (suc n), (and_parts (is_wanted_compatible rows (slot_of m (suc n)) u) (not (needs_entry u.mode && nat_eq (slot_of m (suc n)) END)) z.1).0)

  -- what each raise keeps, the grant keeps as it continues
  pub along : (P : Rows → Type 0) (low : ℕ) → ((rows : Rows) (n : ℕ) → low < n → is_slot m n ≡ true → is_wanted_compatible rows n u ≡ true → P rows → P (raised rows n u)) → (k n : ℕ) (rows : Rows) → low ≤ n → P rows → P (raised_on rows (reached_after m rows n u k) u)
  along P low step zero n rows le p = p
  along P low step (suc k) n rows le p = if_case (λ ns. P (raised_on rows ns u)) (goes_on m rows n u) (slot_of m (suc n) ∷ reached_after m rows (slot_of m (suc n)) u k) []
      (λ e. let x = on_to rows n e in let far : low < slot_of m (suc n) = (let lt = x.0 in omega (arith, lt, le)) in
      subst (λ ns. P (raised_on (raised rows (slot_of m (suc n)) u) ns u)) (sym (reached_raised m u rows (slot_of m (suc n)) k))
      (along P low step k (slot_of m (suc n)) (raised rows (slot_of m (suc n)) u) (omega (arith, far)) (step rows (slot_of m (suc n)) far x.1 x.2 p)))
      (λ e. p)

  -- they are slots, in ascending order
  pub taken_slots : (k n : ℕ) (rows : Rows) → AreSlotsAfter m n (reached_after m rows n u k)
  taken_slots zero n rows = tt
  taken_slots (suc k) n rows = if_case (AreSlotsAfter m n) (goes_on m rows n u) (slot_of m (suc n) ∷ reached_after m rows (slot_of m (suc n)) u k) []
      (λ e. let x = on_to rows n e in (x.0, x.1, taken_slots k (slot_of m (suc n)) rows))
      (λ e. tt)

  -- and not too many
  pub taken_few : (k n : ℕ) (rows : Rows) → length (reached_after m rows n u k) ≤ k
  taken_few zero n rows = omega arith
  taken_few (suc k) n rows = if_case (λ ns. length ns ≤ suc k) (goes_on m rows n u) (slot_of m (suc n) ∷ reached_after m rows (slot_of m (suc n)) u k) []
      (λ e. let ih = taken_few k (slot_of m (suc n)) rows in omega (arith, ih))
      (λ e. omega arith)

-- A grant to the first waiter u of the slot n

module _ (r : ℕ) (m : Index) (rows : Rows) (n : ℕ) (u : Waiter) (us : List Waiter) (queue : (rows n).queue ≡ u ∷ us) where
  abbrev pub first_rows : Rows
  first_rows = set_row rows n (grant_first (rows n) (u ∷ us))

  pub granted_is : granted r m rows n ≡ raised_on first_rows (reached_after m first_rows n u (r - 1)) u
  granted_is = ap (granted_by r m rows n) queue ∙ ap (λ q. raised_on (set_row rows n (grant_first (rows n) q)) (reached_after m (set_row rows n (grant_first (rows n) q)) n u (r - 1)) u) queue

  pub reached_is : reached_slots r m rows n ≡ n ∷ reached_after m first_rows n u (r - 1)
  reached_is = ap (reached_by r m rows n) queue ∙ ap (λ q. n ∷ reached_after m (set_row rows n (grant_first (rows n) q)) n u (r - 1)) queue

-- rows below the slot stay
pub granted_below : (r : ℕ) (m : Index) (rows : Rows) (n k : ℕ) → k < n → granted r m rows n k ≡ rows k
granted_below r m rows n k lt = by_queue (rows n).queue refl
  where
    by_queue : (us : List Waiter) → (rows n).queue ≡ us → granted_by r m rows n us k ≡ rows k
    by_queue [] e = refl
    by_queue (u ∷ us) e = along m u (λ r. r k ≡ rows k) n
        (λ r j far slot is_compatible_there same. row_other r j (with_mode (r j) u.client (wanted (r j) u)) k (λ f. omega (arith, f, far, lt)) ∙ same)
        (r - 1) n (granted_first rows n) (omega arith) (row_other rows n (grant_first (rows n) (rows n).queue) k (λ f. omega (arith, f, lt)))

-- a row at which somebody waits stays, next to the grant's own
module _ (m : Index) (u : Waiter) (k : ℕ) (v : Waiter) (vs : List Waiter) where
  free_next : (rows : Rows) (n : ℕ) → goes_on m rows n u ≡ true → nobody_waits (rows (slot_of m (suc n))).queue ≡ true
  free_next rows n e =
      let x = and_parts (nat_lt n END) (nat_lt (suc n) u.hi && is_open_to rows (slot_of m (suc n)) u) e in
      let y = and_parts (nat_lt (suc n) u.hi) (is_open_to rows (slot_of m (suc n)) u) x.1 in
      (and_parts (nobody_waits (rows (slot_of m (suc n))).queue) (is_wanted_compatible rows (slot_of m (suc n)) u && not (needs_entry u.mode && nat_eq (slot_of m (suc n)) END)) y.1).0

  not_next : (rows : Rows) (n : ℕ) → goes_on m rows n u ≡ true → (rows k).queue ≡ v ∷ vs → k ≢ slot_of m (suc n)
  not_next rows n e queue f =
      let reached_slots : true ≡ false = sym (free_next rows n e) ∙ ap (λ j. nobody_waits (rows j).queue) (sym f) ∙ ap nobody_waits queue in
      absurd (cc)

  raised_compatible : (j n : ℕ) (rows : Rows) → (rows k).queue ≡ v ∷ vs → raised_on rows (reached_after m rows n u j) u k ≡ rows k
  raised_compatible zero n rows queue = refl
  raised_compatible (suc j) n rows queue = if_case (λ ns. raised_on rows ns u k ≡ rows k) (goes_on m rows n u) (slot_of m (suc n) ∷ reached_after m rows (slot_of m (suc n)) u j) []
      (λ e. let next = slot_of m (suc n) in
      ap (λ ns. raised_on (raised rows next u) ns u k) (reached_raised m u rows next j)
      ∙ raised_compatible j next (raised rows next u) (raised_queue rows next u k ∙ queue)
      ∙ row_other rows next (with_mode (rows next) u.client (wanted (rows next) u)) k (not_next rows n e queue))
      (λ e. refl)

pub granted_compatible : (r : ℕ) (m : Index) (rows : Rows) (n k : ℕ) (v : Waiter) (vs : List Waiter) → k ≢ n → (rows k).queue ≡ v ∷ vs → granted r m rows n k ≡ rows k
granted_compatible r m rows n k v vs ne queue = by_queue (rows n).queue refl
  where
    first : granted_first rows n k ≡ rows k
    first = row_other rows n (grant_first (rows n) (rows n).queue) k ne

    by_queue : (us : List Waiter) → (rows n).queue ≡ us → granted_by r m rows n us k ≡ rows k
    by_queue [] e = refl
    by_queue (u ∷ us) e = raised_compatible m u k v vs (r - 1) n (granted_first rows n) (ap (λ r. r.queue) first ∙ queue) ∙ first

-- What a push states of the slots

-- the span of a slot begins after each slot below it
span_behind : (m : Index) → ((q : ℕ) → END ≤ q → fin.get m q ≡ None) → (n k : ℕ) → is_slot m n ≡ true → is_slot m k ≡ true → n < k → suc n ≤ low_of m k
span_behind m near n k here there lt = ⊎_elim
    (λ (a : low_of m k < suc n).
    let x = (span_here m near k n (slot_near m near k there)).1 (omega (arith, a), omega (arith, lt)) in
    let y = x.1 n (omega arith) lt in
    absurd (is_slot_true m near n here y.1 y.0))
    (λ (a : suc n ≤ low_of m k). a)
    (cases_lt (low_of m k) (suc n))

pub slots_ascend : (s : Server) → ((q : ℕ) → END ≤ q → fin.get s.durable.index q ≡ None) → (c n : ℕ) (ns : List ℕ) → is_slot s.durable.index n ≡ true → AreSlotsAfter s.durable.index n ns → Ascend (holdings s c (n ∷ ns))
slots_ascend s near c n [] here h = (tt, tt)
slots_ascend s near c n (k ∷ ks) here h = (span_behind s.durable.index near n k here h.1 h.0, slots_ascend s near c k ks h.1 h.2)

pub holdings_whole : (s : Server) (c : ℕ) (ns : List ℕ) → AllByRecursion (λ h. IsWhole h.span) (holdings s c ns)
holdings_whole s c [] = tt
holdings_whole s c (n ∷ ns) = (let le = low_under s.durable.index n in omega (arith, le), holdings_whole s c ns)

-- the first of some slots
pub ascend_take : (s : Server) (c k : ℕ) (ns : List ℕ) → Ascend (holdings s c ns) → Ascend (holdings s c (take k ns))
ascend_take s c zero ns h = tt
ascend_take s c (suc k) [] h = tt
ascend_take s c (suc k) (n ∷ ns) h = (before k ns h.0, ascend_take s c k ns h.1)
  where
    before : (k : ℕ) (ns : List ℕ) → IsBefore (holding s n c) (holdings s c ns) → IsBefore (holding s n c) (holdings s c (take k ns))
    before zero ns x = tt
    before (suc k) [] x = tt
    before (suc k) (j ∷ js) x = x

pub holdings_on : (s : Server) (c : ℕ) (ns : List ℕ) (n : ℕ) → holdings s c (ns ++ n ∷ []) ≡ holdings s c ns ++ holding s n c ∷ []
holdings_on s c [] n = refl
holdings_on s c (k ∷ ks) n = ap (λ l. holding s k c ∷ l) (holdings_on s c ks n)

pub holdings_long : (s : Server) (c : ℕ) (ns : List ℕ) → length (holdings s c ns) ≡ length ns
holdings_long s c [] = refl
holdings_long s c (n ∷ ns) = ap (λ k. suc k) (holdings_long s c ns)

-- each is a slot
pub slots_there : (m : Index) (n : ℕ) (ns : List ℕ) → is_slot m n ≡ true → AreSlotsAfter m n ns → AllByRecursion (λ k. is_slot m k ≡ true) (n ∷ ns)
slots_there m n [] here h = (here, tt)
slots_there m n (k ∷ ks) here h = (here, slots_there m k ks h.1 h.2)

-- what a grant at a slot where somebody waits states
pub record IsTaken (t : Server) (c : ℕ) (slots : List ℕ) : Type 0 where
  pub there : AllByRecursion (λ k. is_slot t.durable.index k ≡ true) slots
  pub order : Ascend (holdings t c slots)
  pub some : 1 ≤ length slots
  pub few : length slots ≤ MAX_HOLDINGS
  pub reach : length slots ≤ t.durable.reach

pub reached_told : (s t : Server) (n : ℕ) (u : Waiter) (slots : List ℕ) (rest : List Waiter) → ((q : ℕ) → END ≤ q → fin.get s.durable.index q ≡ None) → t.durable ≡ s.durable → is_slot s.durable.index n ≡ true → (s.rows n).queue ≡ u ∷ rest → IsReach s.durable.reach → slots ≡ reached_slots s.durable.reach s.durable.index s.rows n → IsTaken t u.client slots
reached_told s t n u slots rest near same here queue far is =
    let m = s.durable.index in
    let first = first_rows s.durable.reach m s.rows n u rest queue in
    let ns = reached_after m first n u (s.durable.reach - 1) in
    let after = taken_slots m u (s.durable.reach - 1) n first in
    let e : slots ≡ n ∷ ns = is ∙ reached_is s.durable.reach m s.rows n u rest queue in
    subst (IsTaken t u.client) (sym e)
    (record {
      there = subst (λ (d : Durable). AllByRecursion (λ k. is_slot d.index k ≡ true) (n ∷ ns)) (sym same) (slots_there m n ns here after);
      order = slots_ascend t (λ q a. ap (λ (d : Durable). fin.get d.index q) same ∙ near q a) u.client n ns (ap (λ (d : Durable). is_slot d.index n) same ∙ here) (subst (λ (d : Durable). AreSlotsAfter d.index n ns) (sym same) after);
      some = omega arith;
      few = let x = taken_few m u (s.durable.reach - 1) n first in let some = far.0 in let few = far.1 in omega (arith, x, some, few);
      reach = subst (λ (d : Durable). length (n ∷ ns) ≤ d.reach) (sym same) (let x = taken_few m u (s.durable.reach - 1) n first in let some = far.0 in omega (arith, x, some));
    })
