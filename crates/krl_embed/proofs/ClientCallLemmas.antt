-- Each call on the client of a host is one of its steps, or none.
use Rattle.std.proofs.Common.{◌≡◌, ◌∙◌, ℕ, zero, suc, ◌+◌, ◌-◌, ◌⊎◌, inl, inr, List, [], ◌∷◌, ◌++◌, length, map, Bool, true, false, Option, Some, None, Result, Ok, Err, ap, refl, sym, subst, arith, nat_le}
use Rattle.std.specs.Prelude.{take, drop, min, slice_get}
use Rattle.std.proofs.lemmas.List.{append-nil, append_assoc, take_all, drop_all}
use Rattle.krl_modes.specs.Names.{all_modes}
use Rattle.krl_modes.specs.Spans.{Bounds}
use Rattle.krl_modes.specs.declared.mode.Mode.{Mode}
use Rattle.krl_messages.specs.declared.to_server.ToServer.{ToServer}
use Rattle.krl_messages.specs.declared.to_client.ToClient.{ToClient}
use Rattle.krl_messages.specs.declared.write_op.WriteOp.{WriteOp}
use Rattle.krl_wire.specs.declared.fault.Fault.{Fault}
use Rattle.krl_wire.specs.Reading as reading
use Rattle.krl_client.specs.Clients.{Client, begun}
use Rattle.krl_client.specs.Commands as commands
use Rattle.krl_client.specs.declared.refused.CommandRefused.{CommandRefused}
use Rattle.krl_client.specs.FieldSteps.{Follows, IsTick}
use Rattle.krl_client.specs.Fields.{KeptClient, meaning}
use Rattle.krl_client.specs.Messages.{client_case_of}
use Rattle.krl_client.specs.Ticks.{says_hello}
use Rattle.krl_hosts.specs.Hosts.{AreAmong}
use Rattle.krl_embed.specs.declared.code.Code.{Code}
use Rattle.krl_embed.specs.declared.code.Code.TheVariants as code
use Rattle.krl_embed.specs.declared.endpoint.Endpoint.{Endpoint}
use Rattle.krl_embed.specs.declared.endpoint.Role.{Role}
use Rattle.krl_embed.specs.declared.endpoint.Role.TheVariants as role
use Rattle.krl_embed.specs.declared.notes.Notes.{Notes}
use Rattle.krl_embed.specs.declared.reply.Reply.{Reply}
use Rattle.krl_embed.specs.Clients.{Did, Commanded, IsUnread, HearsRead, Hears, Ticks, LocksIn, Locks, Writes, WritesTaking, Lowers, PinsAs, Pins, UnpinsAs, Unpins}
use Rattle.krl_embed.specs.Endpoints.{OnClient, OnClientRole}
use Rattle.krl_embed.specs.Frames.{said_frame, said_frames, WaitsBy}
use Rattle.krl_embed.specs.Notes.{ConfirmsIf, ConfirmsNotes, ready, ready_of, is_held, TakesAs, TakesUnless, Takes}
use Rattle.krl_embed.specs.Opening.{BeginsClosed, IsBegunRole}
use Rattle.krl_embed.specs.Replies.{code_of}
use Rattle.krl_embed.specs.Shown.{Leaves, LeavesRole}
use Rattle.krl_embed.specs.ClientCalls.{Standing, Runs, HasLeft, ClientHost, IsClient, HoldsBack, IsClientHost, GoesOrStays, IsStep, Reads, Repeats, AsksFor, Wrote, Took, GaveBack, Pinned, Unpinned, HasGone, GivesAll, ClientCallsAreSteps}

frames_both : (xs ys : List ToServer) → said_frames (xs ++ ys) ≡ said_frames xs ++ said_frames ys
frames_both [] ys = refl
frames_both (x ∷ xs) ys = ap (λ bs. said_frame x ++ bs) (frames_both xs ys) ∙ sym (append_assoc (said_frame x) (said_frames xs) (said_frames ys))

-- Roles

runs_is : (s : Standing) (k : KeptClient) → IsClient (role.Client k) s → s ≡ Runs (meaning k)
runs_is (Runs c) k is = ap (λ x. Runs x) (sym is)
runs_is (HasLeft m) k is = absurd is

left_is : (s : Standing) (bye : List ToServer) → IsClient (role.Left bye) s → (m : ToServer) × (s ≡ HasLeft m) × (bye ≡ m ∷ [])
left_is (Runs c) bye is = absurd is
left_is (HasLeft m) bye is = (m, refl, is)

-- a call on a client finds one, or changes nothing
on_client : (Does : KeptClient → List ℕ → KeptClient → List ℕ → Reply → Type 0) (a b : Role) (old new : List ℕ) (r : Reply) (s : Standing) → IsClient a s → OnClientRole Does a old b new r → ((k : KeptClient) × (l : KeptClient) × (a ≡ role.Client k) × (b ≡ role.Client l) × Does k old l new r) ⊎ ((b ≡ a) × (new ≡ old))
on_client Does (role.Client k) (role.Client l) old new r s is d = inl (k, l, refl, refl, d)
on_client Does (role.Client k) (role.Left bye) old new r s is d = absurd d
on_client Does (role.Client k) (role.Server x) old new r s is d = absurd d
on_client Does (role.Left bye) b old new r s is d = inr (d.0, d.1)
on_client Does (role.Server x) b old new r s is d = absurd is

-- nothing happened
stays : (e f : Endpoint) (h : ClientHost) → IsClientHost e h → IsClient f.role h.standing → f.outgoing ≡ e.outgoing → f.notes ≡ e.notes → IsClientHost f h
stays e f h is client out notes = record {
  client = client;
  outgoing = out ∙ is.outgoing;
  notes = subst (λ (n : Notes). HoldsBack h.is_kept n.marks) (sym notes) is.notes;
}

-- these wait after all others
waits : (e f : Endpoint) (h : ClientHost) (s : Standing) (said : List ToServer) → IsClientHost e h → IsClient f.role s → f.outgoing ≡ e.outgoing ++ said_frames said → f.notes ≡ e.notes → IsClientHost f (record h { standing = s; unsent = h.unsent ++ said })
waits e f h s said is client out notes = record {
  client = client;
  outgoing = out ∙ ap (λ bs. bs ++ said_frames said) is.outgoing ∙ sym (frames_both h.unsent said);
  notes = subst (λ (n : Notes). HoldsBack h.is_kept n.marks) (sym notes) is.notes;
}

all_among : (xs : List ToServer) → AreAmong xs xs
all_among xs x i = i

none_among : (xs : List ToServer) → AreAmong [] xs
none_among xs x i = absurd i

-- A call that finds a client

module _ (e f : Endpoint) (h : ClientHost) (k l : KeptClient) (is : IsClientHost e h) (from : e.role ≡ role.Client k) (to : f.role ≡ role.Client l) (notes : f.notes ≡ e.notes) where
  was : h.standing ≡ Runs (meaning k)
  was = runs_is h.standing k (subst (λ x. IsClient x h.standing) from is.client)

  same : meaning l ≡ meaning k → IsClient f.role h.standing
  same m = subst (λ x. IsClient x h.standing) (sym to) (subst (λ s. IsClient (role.Client l) s) (sym was) m)

  becomes : IsClient f.role (Runs (meaning l))
  becomes = subst (λ x. IsClient x (Runs (meaning l))) (sym to) refl

  goes : (B : Client → Client → List ToServer → Type 0) (list said : List ToServer) → B (meaning k) (meaning l) list → AreAmong said list → f.outgoing ≡ e.outgoing ++ said_frames said → GoesOrStays B h f
  goes B list said b among out = inr (record {
    before = meaning k;
    now = meaning l;
    list = list;
    said = said;
    runs = was;
    becomes = b;
    among = among;
    after = waits e f h (Runs (meaning l)) said is becomes out notes;
  })

  refused : (B : Client → Client → List ToServer → Type 0) → l ≡ k → f.outgoing ≡ e.outgoing → GoesOrStays B h f
  refused B m out = inl (stays e f h is (same (ap meaning m)) out notes)

  did : (Becomes : KeptClient → List ToServer → Type 0) (B : Client → Client → List ToServer → Type 0) (c : Option Code) → ((list : List ToServer) → Becomes l list → B (meaning k) (meaning l) list) → Did Becomes k e.outgoing l f.outgoing c → GoesOrStays B h f
  did Becomes B (Some code.Done) turn d = goes B d.0 d.0 (turn d.0 d.1) (all_among d.0) d.2
  did Becomes B (Some code.Unsaid) turn d = goes B d.0 [] (turn d.0 d.1) (none_among d.0) (d.2 ∙ sym (append-nil e.outgoing))
  did Becomes B (Some code.OutOfMemory) turn d = refused B d.0 d.1
  did Becomes B (Some _) turn d = absurd d
  did Becomes B None turn d = absurd d

  commanded : (due : Option CommandRefused) (next : Client) (m : ToServer) (B : Client → Client → List ToServer → Type 0) (c : Option Code) → (due ≡ None → meaning l ≡ next → (list : List ToServer) → list ≡ m ∷ [] → B (meaning k) (meaning l) list) → Commanded due next m k e.outgoing l f.outgoing c → GoesOrStays B h f
  commanded (Some due) next m B c turn d = refused B d.0 d.1
  commanded None next m B c turn d = did (λ x list. (meaning x ≡ next) × (list ≡ m ∷ [])) B c (λ list b. turn refl b.0 list b.1) d

  by_fault : (bytes : List ℕ) (x : Fault) (r : Reply) (c : Option Code) → IsUnread bytes x k e.outgoing l f.outgoing r c → GoesOrStays (Reads bytes) h f
  by_fault bytes x r (Some code.BadMessage) d = refused (Reads bytes) d.0 d.1
  by_fault bytes x r (Some code.OutOfMemory) d = refused (Reads bytes) d.0 d.1
  by_fault bytes x r (Some _) d = absurd d
  by_fault bytes x r None d = absurd d

  hears_one : (bytes : List ℕ) (r : Reply) (x : Result ToClient Fault) → reading.to_client_of bytes ≡ x → HearsRead bytes x k e.outgoing l f.outgoing r → GoesOrStays (Reads bytes) h f
  hears_one bytes r (Ok m) reads d = did (λ x list. Follows (meaning k) (client_case_of (meaning k) m) (meaning x) list) (Reads bytes) (code_of r) (λ list b. (m, reads, b)) d.1
  hears_one bytes r (Err x) reads d = by_fault bytes x r (code_of r) d

  ticks_one : (r : Reply) → Ticks k e.outgoing l f.outgoing r → GoesOrStays Repeats h f
  ticks_one r d = did (λ x list. (x ≡ k) × IsTick (meaning k) list) Repeats (code_of r) (λ list b. (ap meaning b.0, b.1)) d.1

  locks_one : (point hi place : ℕ) (r : Reply) (o : Option Mode) → slice_get all_modes place ≡ o → LocksIn o point hi k e.outgoing l f.outgoing r → GoesOrStays (AsksFor point hi place) h f
  locks_one point hi place r None at d = refused (AsksFor point hi place) d.0 d.1
  locks_one point hi place r (Some m) at d =
      let next = commands.locked (meaning k) point hi m in
      commanded (commands.lock_refusal (meaning k) point hi) next (commands.says_lock next point hi m) (AsksFor point hi place) (code_of r)
      (λ free is_next list is_list. (m, at, free, is_next, is_list ∙ ap (λ x. commands.says_lock x point hi m ∷ []) (sym is_next))) d

  writes_one : (op : Option WriteOp) (r : Reply) → Writes op k e.outgoing l f.outgoing r → GoesOrStays (Wrote op) h f
  writes_one None r d = refused (Wrote None) d.1.0 d.1.1
  writes_one (Some x) r d =
      let next = commands.wrote (meaning k) x in
      commanded (commands.write_refusal (meaning k) x) next (commands.says_write next x) (Wrote (Some x)) (code_of r)
      (λ free is_next list is_list. (x, refl, free, is_next, is_list ∙ ap (λ y. commands.says_write y x ∷ []) (sym is_next))) d.1

  takes_one : (op : Option WriteOp) (r : Reply) → WritesTaking op k e.outgoing l f.outgoing r → GoesOrStays (Took op) h f
  takes_one None r d = refused (Took None) d.1.0 d.1.1
  takes_one (Some x) r d =
      let next = commands.seized (meaning k) x in
      commanded (commands.seize_refusal (meaning k) x) next (commands.says_write next x) (Took (Some x)) (code_of r)
      (λ free is_next list is_list. (x, refl, free, is_next, is_list ∙ ap (λ y. commands.says_write y x ∷ []) (sym is_next))) d.1

  lowers_one : (s : Bounds) (keep : Option Mode) (r : Reply) → Lowers s keep k e.outgoing l f.outgoing r → GoesOrStays (GaveBack s keep) h f
  lowers_one s None r d = refused (GaveBack s None) d.1.0 d.1.1
  lowers_one s (Some m) r d =
      commanded (commands.lower_refusal (meaning k) s) (commands.belief_lowered (meaning k) s m) (commands.says_release (meaning k) s m) (GaveBack s (Some m)) (code_of r)
      (λ free is_next list is_list. (m, refl, free, is_next, is_list)) d.1

  pins_one : (s : Bounds) (r : Reply) (due : Option CommandRefused) → commands.pin_refusal (meaning k) s ≡ due → PinsAs due s k e.outgoing l f.outgoing r → GoesOrStays (Pinned s) h f
  pins_one s r (Some due) is_due d = refused (Pinned s) d.1.0 d.1.1
  pins_one s r None free d = goes (Pinned s) [] [] (r.detail, free, d.2, d.3, refl) (all_among []) (d.1 ∙ sym (append-nil e.outgoing))

  unpins_one : (id : ℕ) (r : Reply) (due : Option CommandRefused) → commands.unpin_refusal (meaning k) id ≡ due → UnpinsAs due id k e.outgoing l f.outgoing r → GoesOrStays (Unpinned id) h f
  unpins_one id r (Some due) is_due d = refused (Unpinned id) d.0 d.1
  unpins_one id r None free d = goes (Unpinned id) [] [] (free, d.2, refl) (all_among []) (d.1 ∙ sym (append-nil e.outgoing))

-- by the role
by_role : (Does : KeptClient → List ℕ → KeptClient → List ℕ → Reply → Type 0) (B : Client → Client → List ToServer → Type 0) →
    ((e f : Endpoint) (h : ClientHost) (k l : KeptClient) (r : Reply) → IsClientHost e h → e.role ≡ role.Client k → f.role ≡ role.Client l → f.notes ≡ e.notes → Does k e.outgoing l f.outgoing r → GoesOrStays B h f) →
    IsStep (OnClient Does) B
by_role Does B turn e f h r is d notes = by_case (on_client Does e.role f.role e.outgoing f.outgoing r h.standing is.client d)
  where
    by_case : ((k : KeptClient) × (l : KeptClient) × (e.role ≡ role.Client k) × (f.role ≡ role.Client l) × Does k e.outgoing l f.outgoing r) ⊎ ((f.role ≡ e.role) × (f.outgoing ≡ e.outgoing)) → GoesOrStays B h f
    by_case (inl x) = turn e f h x.0 x.1 r is x.2 x.3 notes x.4
    by_case (inr x) = inl (stays e f h is (subst (λ y. IsClient y h.standing) (sym x.0) is.client) x.1 notes)

-- Leaving

-- the Bye waits, or is lost
gone : (e f : Endpoint) (h : ClientHost) (bye : ToServer) (list : List ToServer) (c : Option Code) → IsClientHost e h → ((k : Client) × (h.standing ≡ Runs k) × (bye ≡ commands.says_bye k)) ⊎ (h.standing ≡ HasLeft bye) → list ≡ bye ∷ [] → f.role ≡ role.Left list → f.notes ≡ e.notes → WaitsBy (said_frames list) e.outgoing f.outgoing c → HasGone h f
gone e f h bye list c is why listed to notes w = by_code c w
  where
    client : IsClient f.role (HasLeft bye)
    client = subst (λ x. IsClient x (HasLeft bye)) (sym to) listed

    it : (said : List ToServer) → AreAmong said (bye ∷ []) → f.outgoing ≡ e.outgoing ++ said_frames said → HasGone h f
    it said among out = record { bye = bye; said = said; among = among; is_bye = why; after = waits e f h (HasLeft bye) said is client out notes }

    by_code : (c : Option Code) → WaitsBy (said_frames list) e.outgoing f.outgoing c → HasGone h f
    by_code (Some code.Done) w = it (bye ∷ []) (all_among (bye ∷ [])) (w ∙ ap (λ ms. e.outgoing ++ said_frames ms) listed)
    by_code (Some code.Unsaid) w = it [] (none_among (bye ∷ [])) (w ∙ sym (append-nil e.outgoing))
    by_code (Some _) w = absurd w
    by_code None w = absurd w

leaves : (e f : Endpoint) (h : ClientHost) (r : Reply) → IsClientHost e h → Leaves e f r → f.notes ≡ e.notes → IsClientHost f h ⊎ HasGone h f
leaves e f h r is d notes = by_roles e.role f.role refl refl is.client d
  where
    by_roles : (a b : Role) → e.role ≡ a → f.role ≡ b → IsClient a h.standing → LeavesRole a e.outgoing b f.outgoing r → IsClientHost f h ⊎ HasGone h f
    by_roles (role.Client k) (role.Left bye) from to client d = inr (gone e f h (commands.says_bye (meaning k)) bye (code_of r) is (inl (meaning k, runs_is h.standing k client, refl)) d.0 to notes d.1)
    by_roles (role.Client k) (role.Client l) from to client d = inl (stays e f h is (subst (λ x. IsClient x h.standing) (ap (λ x. role.Client x) (sym d.0) ∙ sym to) client) d.1 notes)
    by_roles (role.Client k) (role.Server s) from to client d = absurd d
    by_roles (role.Left bye) b from to client d =
        let m = left_is h.standing bye client in
        inr (gone e f h m.0 bye (code_of r) is (inr m.1) m.2 (to ∙ d.0) notes d.1)
    by_roles (role.Server s) b from to client d = absurd client

-- The note

-- what the first i of its marks leave
kept_by : (b : Bool) (marks : List ℕ) (i : ℕ) → HoldsBack b marks → HoldsBack b (drop i marks) ⊎ HoldsBack true (drop i marks)
kept_by true marks i is = inr (subst (λ (xs : List ℕ). drop i xs ≡ []) (sym is) (none i))
  where
    none : (i : ℕ) → let xs : List ℕ = [] in drop i xs ≡ []
    none zero = refl
    none (suc i) = refl
kept_by false marks i is = subst (λ (xs : List ℕ). (drop i xs ≡ 0 ∷ []) ⊎ (drop i xs ≡ [])) (sym is) (one i)
  where
    one : (i : ℕ) → let xs : List ℕ = 0 ∷ [] in (drop i xs ≡ 0 ∷ []) ⊎ (drop i xs ≡ [])
    one zero = inl refl
    one (suc zero) = inr refl
    one (suc (suc i)) = inr refl

keeps : (count : ℕ) (e f : Endpoint) (h : ClientHost) (r : Reply) → IsClientHost e h → ConfirmsNotes count e f r → IsClientHost f h ⊎ IsClientHost f (record h { is_kept = true })
keeps count e f h r is d = by_test (nat_le count (e.notes.confirmed + length e.notes.marks)) d.2.1
  where
    client : IsClient f.role h.standing
    client = subst (λ x. IsClient x h.standing) (sym d.0) is.client

    by_marks : (marks : List ℕ) → f.notes.marks ≡ marks → HoldsBack h.is_kept marks ⊎ HoldsBack true marks → IsClientHost f h ⊎ IsClientHost f (record h { is_kept = true })
    by_marks marks m (inl b) = inl (record { client = client; outgoing = d.1 ∙ is.outgoing; notes = subst (λ (xs : List ℕ). HoldsBack h.is_kept xs) (sym m) b })
    by_marks marks m (inr b) = inr (record { client = client; outgoing = d.1 ∙ is.outgoing; notes = subst (λ (xs : List ℕ). HoldsBack true xs) (sym m) b })

    by_test : (b : Bool) → ConfirmsIf b count e.notes f.notes (code_of r) → IsClientHost f h ⊎ IsClientHost f (record h { is_kept = true })
    by_test true x = by_marks (drop (count - e.notes.confirmed) e.notes.marks) (ap (λ (n : Notes). n.marks) x.1) (kept_by h.is_kept e.notes.marks (count - e.notes.confirmed) is.notes)
    by_test false x = inl (stays e f h is client d.1 x.1)

-- What is given out

nothing_given : (e f : Endpoint) (h : ClientHost) (was now : List ℕ) (n : ℕ) → IsClientHost e h → h.is_kept ≡ false → n ≡ 0 → f.role ≡ e.role → TakesAs n was now e f (Some code.Done) → IsClientHost f h × (now ≡ was)
nothing_given e f h was now n is not_kept none role a =
    let marks : e.notes.marks ≡ 0 ∷ [] = subst (λ b. HoldsBack b e.notes.marks) not_kept is.notes in
    let after : f.notes.marks ≡ 0 ∷ [] = ap (λ (x : Notes). x.marks) a.1 ∙ ap (λ (i : ℕ). map (λ mark. mark - i) e.notes.marks) none ∙ ap (λ (xs : List ℕ). map (λ mark. mark - 0) xs) marks in (
      record {
        client = subst (λ x. IsClient x h.standing) (sym role) is.client;
        outgoing = a.0 ∙ ap (λ (i : ℕ). drop i e.outgoing) none ∙ is.outgoing;
        notes = subst (λ b. HoldsBack b f.notes.marks) (sym not_kept) after;
      },
      a.2 ∙ ap (λ (i : ℕ). take i e.outgoing ++ drop i was) none,
    )

all_given : (e f : Endpoint) (h : ClientHost) (was now : List ℕ) (n : ℕ) → IsClientHost e h → h.is_kept ≡ true → n ≡ length e.outgoing → f.role ≡ e.role → TakesAs n was now e f (Some code.Done) → GivesAll h f was now
all_given e f h was now n is kept whole role a =
    let frames = said_frames h.unsent in
    let marks : e.notes.marks ≡ [] = subst (λ b. HoldsBack b e.notes.marks) kept is.notes in
    let after : f.notes.marks ≡ [] = ap (λ (x : Notes). x.marks) a.1 ∙ ap (λ (xs : List ℕ). map (λ mark. mark - n) xs) marks in
    let size : n ≡ length frames = whole ∙ ap length is.outgoing in
    let some : take n e.outgoing ≡ frames = ap (λ bs. take n bs) is.outgoing ∙ ap (λ (i : ℕ). take i frames) size ∙ take_all (length frames) frames (omega arith) in
    let none : drop n e.outgoing ≡ [] = ap (λ bs. drop n bs) is.outgoing ∙ ap (λ (i : ℕ). drop i frames) size ∙ drop_all (length frames) frames (omega arith) in
    record {
      kept = kept;
      bytes = a.2 ∙ ap (λ bs. bs ++ drop n was) some ∙ ap (λ (i : ℕ). frames ++ drop i was) size;
      after = record {
        client = subst (λ x. IsClient x h.standing) (sym role) is.client;
        outgoing = a.0 ∙ none;
        notes = subst (λ b. HoldsBack b f.notes.marks) (sym kept) after;
      };
    }

releases : (e f : Endpoint) (h : ClientHost) (was now : List ℕ) (r : Reply) → IsClientHost e h → Takes was now e f r → (IsClientHost f h × (now ≡ was)) ⊎ GivesAll h f was now
releases e f h was now r is d = by_test (is_held e) d
  where
    same : f.role ≡ e.role → IsClient f.role h.standing
    same role = subst (λ x. IsClient x h.standing) (sym role) is.client

    given : (b : Bool) → h.is_kept ≡ b → f.role ≡ e.role → TakesAs (ready_of e) was now e f (Some code.Done) → (IsClientHost f h × (now ≡ was)) ⊎ GivesAll h f was now
    given true kept role a = inr (all_given e f h was now (ready_of e) is kept (ap (λ (xs : List ℕ). ready xs (length e.outgoing)) (subst (λ b. HoldsBack b e.notes.marks) kept is.notes)) role a)
    given false kept role a =
        let none : ready_of e ≡ min (length e.outgoing) 0 = ap (λ (xs : List ℕ). ready xs (length e.outgoing)) (subst (λ b. HoldsBack b e.notes.marks) kept is.notes) in
        inl (nothing_given e f h was now (ready_of e) is kept (omega (arith, none)) role a)

    by_code : (c : Option Code) → f.role ≡ e.role → TakesAs (ready_of e) was now e f c → (IsClientHost f h × (now ≡ was)) ⊎ GivesAll h f was now
    by_code (Some code.Done) role a = given h.is_kept refl role a
    by_code (Some code.TooShort) role a = inl (stays e f h is (same role) a.1 a.2, a.3)
    by_code (Some _) role a = absurd a
    by_code None role a = absurd a

    by_test : (b : Bool) → TakesUnless b was now e f r → (IsClientHost f h × (now ≡ was)) ⊎ GivesAll h f was now
    by_test true a = inl (stays e f h is (same (ap (λ x. x.role) a.0)) (ap (λ x. x.outgoing) a.0) (ap (λ x. x.notes) a.0), a.1)
    by_test false a = by_code (code_of r) a.0 a.2

-- A start

begun_role : (number incarnation : ℕ) (a : Role) → IsBegunRole number incarnation a → IsClient a (Runs (begun number incarnation))
begun_role number incarnation (role.Client k) is = is
begun_role number incarnation (role.Left bye) is = absurd is
begun_role number incarnation (role.Server s) is = absurd is

begins : (number incarnation : ℕ) (e : Endpoint) (r : Reply) → BeginsClosed number incarnation (Some e) r → IsClientHost e (record { standing = Runs (begun number incarnation); is_kept = false; unsent = says_hello (begun number incarnation) ∷ [] })
begins number incarnation e r d = record {
  client = begun_role number incarnation e.role d.2.0;
  outgoing = d.2.1;
  notes = ap (λ (n : Notes). n.marks) d.2.2;
}

pub client_calls_are_steps : ClientCallsAreSteps
client_calls_are_steps = record {
  begins = begins;
  hears = λ bytes. by_role (Hears bytes) (Reads bytes) (λ e f h k l r is from to notes d. hears_one e f h k l is from to notes bytes r (reading.to_client_of bytes) refl d);
  ticks = by_role Ticks Repeats (λ e f h k l r is from to notes d. ticks_one e f h k l is from to notes r d);
  locks = λ point hi place. by_role (Locks point hi place) (AsksFor point hi place) (λ e f h k l r is from to notes d. locks_one e f h k l is from to notes point hi place r (slice_get all_modes place) refl d.1);
  writes = λ op. by_role (Writes op) (Wrote op) (λ e f h k l r is from to notes d. writes_one e f h k l is from to notes op r d);
  takes = λ op. by_role (WritesTaking op) (Took op) (λ e f h k l r is from to notes d. takes_one e f h k l is from to notes op r d);
  lowers = λ s keep. by_role (Lowers s keep) (GaveBack s keep) (λ e f h k l r is from to notes d. lowers_one e f h k l is from to notes s keep r d);
  pins = λ s. by_role (Pins s) (Pinned s) (λ e f h k l r is from to notes d. pins_one e f h k l is from to notes s r (commands.pin_refusal (meaning k) s) refl d);
  unpins = λ id. by_role (Unpins id) (Unpinned id) (λ e f h k l r is from to notes d. unpins_one e f h k l is from to notes id r (commands.unpin_refusal (meaning k) id) refl d.1);
  leaves = leaves;
  keeps = keeps;
  releases = releases;
}
