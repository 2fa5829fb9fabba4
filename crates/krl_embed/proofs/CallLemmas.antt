-- Each call on the server of a host is one of its moves, or none.
use Rattle.std.proofs.Common.{◌≡◌, ◌∙◌, ℕ, zero, suc, ◌+◌, ◌-◌, ◌≤◌, ◌<◌, ◌⊎◌, inl, inr, List, [], ◌∷◌, ◌++◌, length, map, Bool, true, false, Option, Some, None, Result, Ok, Err, ap, refl, sym, subst, arith, nat_le, ⊎_elim, leb-true, length-append}
use Rattle.std.specs.Prelude.{take, drop, min, max, ◌^◌}
use Rattle.std.proofs.lemmas.List.{append-nil, append_assoc, length-drop, length-map, take_all, drop_all, take-append-le, drop-append-le}
use Rattle.krl_messages.specs.declared.to_server.ToServer.{ToServer}
use Rattle.krl_messages.specs.declared.to_client.ToClient.{ToClient}
use Rattle.krl_messages.specs.Members.{In}
use Rattle.krl_messages.proofs.Members.{in_both, in_right}
use Rattle.krl_wire.specs.declared.fault.Fault.{Fault}
use Rattle.krl_wire.specs.Reading as reading
use Rattle.krl_durable.specs.declared.limits.Limits.{Limits}
use Rattle.krl_durable.specs.Index.{range}
use Rattle.krl_durable.specs.Registers.{Durable}
use Rattle.krl_durable.specs.declared.change.Change.{Change}
use Rattle.krl_durable.specs.declared.change.Change.TheVariants as change
use Rattle.krl_server.specs.declared.state.State.{State}
use Rattle.krl_server.specs.declared.out.ServerOut.{ServerOut}
use Rattle.krl_server.specs.Servers.{Server}
use Rattle.krl_server.specs.Cases.{case_of}
use Rattle.krl_server.specs.Changes.{change_of}
use Rattle.krl_server.specs.Steps.{ServerStep, nudge, start}
use Rattle.krl_server.specs.StateMeaning.{meaning}
use Rattle.krl_hosts.specs.Hosts.{Note, Started, Changed, Said, said_after, Host, stepped, notes_of, AreAmong}
use Rattle.krl_embed.specs.declared.code.Code.{Code}
use Rattle.krl_embed.specs.declared.code.Code.TheVariants as code
use Rattle.krl_embed.specs.declared.endpoint.Endpoint.{Endpoint}
use Rattle.krl_embed.specs.declared.endpoint.Role.{Role}
use Rattle.krl_embed.specs.declared.endpoint.Role.TheVariants as role
use Rattle.krl_embed.specs.declared.notes.Notes.{Notes}
use Rattle.krl_embed.specs.declared.page.Page.{Page}
use Rattle.krl_embed.specs.declared.records.RecordRow.{RecordRow}
use Rattle.krl_embed.specs.declared.reply.Reply.{Reply}
use Rattle.krl_embed.specs.declared.rows.Row.{Row}
use Rattle.krl_embed.specs.declared.server_calls.Stepped.{Stepped}
use Rattle.krl_embed.specs.Replies.{code_of}
use Rattle.krl_embed.specs.Changes.{unchanged, change_row}
use Rattle.krl_embed.specs.Endpoints.{IsCode, OfServer}
use Rattle.krl_embed.specs.Frames.{told_frame, told_frames}
use Rattle.krl_embed.specs.Notes.{counted, one_more, confirmed_to, ConfirmsIf, ConfirmsNotes, ready, ready_of, is_held, TakesAs, TakesUnless, Takes}
use Rattle.krl_embed.specs.Opening.{parts, OpensClosed, IsStartedRole}
use Rattle.krl_embed.specs.Pages.{Fills, IsUnfilled, ShowsPage, rests_on}
use Rattle.krl_embed.specs.Servers.{OnServer, OnServerRole, IsUnchanged, HasActed, Acts, IsRefused, Hears, HearsRead, Nudges, NudgesAs}
use Rattle.krl_embed.specs.Calls.{IsServer, messages_of, Parts, AreMarks, IsHost, Judged, Gives, Reads, CallsAreMoves}

-- Frames of messages, one after another

frames_both : (xs ys : List ToClient) → told_frames (xs ++ ys) ≡ told_frames xs ++ told_frames ys
frames_both [] ys = refl
frames_both (x ∷ xs) ys = ap (λ bs. told_frame x ++ bs) (frames_both xs ys) ∙ sym (append_assoc (told_frame x) (told_frames xs) (told_frames ys))

messages_both : (xs ys : List Said) → messages_of (xs ++ ys) ≡ messages_of xs ++ messages_of ys
messages_both [] ys = refl
messages_both (x ∷ xs) ys = ap (λ ms. x.message ∷ ms) (messages_both xs ys)

messages_said : (n : ℕ) (ms : List ToClient) → messages_of (said_after n ms) ≡ ms
messages_said n [] = refl
messages_said n (m ∷ ms) = ap (λ xs. m ∷ xs) (messages_said n ms)

said_in : (n : ℕ) (ms : List ToClient) (x : Said) → In x (said_after n ms) → x.after ≡ n
said_in n [] x i = absurd i
said_in n (m ∷ ms) x (inl e) = ap (λ y. y.after) e
said_in n (m ∷ ms) x (inr i) = said_in n ms x i

-- the bytes of the frames of what was sent
abbrev size : List Said → ℕ
size said = length (told_frames (messages_of said))

-- Marks

-- more is sent, which rests on all notes
said_more : (marks : List ℕ) (n k : ℕ) (said : List Said) (ms : List ToClient) → k ≡ n + length marks → AreMarks marks n said → AreMarks marks n (said ++ said_after k ms)
said_more [] n k said ms e are = λ x i. ⊎_elim (λ (y : In x said). are x y) (λ (y : In x (said_after k ms)). let a = said_in k ms x y in omega (arith, a, e)) (in_both said (said_after k ms) x i)
said_more (mark ∷ marks) n k said ms e are = (
  record {
    first = are.0.first;
    rest = are.0.rest ++ said_after k ms;
    whole = ap (λ xs. xs ++ said_after k ms) are.0.whole ∙ append_assoc are.0.first are.0.rest (said_after k ms);
    place_is = are.0.place_is;
    early = are.0.early;
    late = λ x i. ⊎_elim (λ (y : In x are.0.rest). are.0.late x y) (λ (y : In x (said_after k ms)). let a = said_in k ms x y in omega (arith, a, e)) (in_both are.0.rest (said_after k ms) x i);
  },
  said_more marks (suc n) k said ms (omega (arith, e)) are.1,
)

-- one more note is reported, on which nothing of it rests
noted_more : (marks : List ℕ) (n : ℕ) (said : List Said) → AreMarks marks n said → AreMarks (marks ++ size said ∷ []) n said
noted_more [] n said are = (
  record { first = said; rest = []; whole = sym (append-nil said); place_is = refl; early = are; late = λ x i. absurd i },
  (λ x i. let a = are x i in omega (arith, a)),
)
noted_more (mark ∷ marks) n said are = (are.0, noted_more marks (suc n) said are.1)

-- the first notes are confirmed
confirmed_more : (i : ℕ) (marks : List ℕ) (n : ℕ) (said : List Said) → i ≤ length marks → AreMarks marks n said → AreMarks (drop i marks) (n + i) said
confirmed_more zero marks n said le are = subst (λ k. AreMarks marks k said) (omega arith) are
confirmed_more (suc i) [] n said le are = absurd (let no : ⊥ = omega (arith, le) in no)
confirmed_more (suc i) (mark ∷ marks) n said le are =
    let e : suc n + i ≡ n + suc i = omega arith in
    subst (λ k. AreMarks (drop i marks) k said) e (confirmed_more i marks (suc n) said (omega (arith, le)) are.1)

abbrev rest_of : List Said → List Said
rest_of [] = []
rest_of (x ∷ xs) = xs

abbrev size_of_first : List Said → ℕ
size_of_first [] = 0
size_of_first (x ∷ xs) = length (told_frame x.message)

size_more : (x : Said) (xs : List Said) → size (x ∷ xs) ≡ length (told_frame x.message) + size xs
size_more x xs = length-append (told_frame x.message) (told_frames (messages_of xs))

-- some is given out
cut : (out rest first tail : List Said) (n : ℕ) → out ++ rest ≡ first ++ tail → ((x : Said) → In x first → x.after ≤ n) → ((x : Said) → In x tail → n < x.after) → Parts (size first - size out) n rest
cut [] rest first tail n e early late = record { first = first; rest = tail; whole = e; place_is = omega arith; early = early; late = late }
cut (x ∷ out) rest [] tail n e early late = record {
  first = [];
  rest = rest;
  whole = refl;
  place_is = omega arith;
  early = λ y i. absurd i;
  late = λ y i. late y (subst (λ (l : List Said). In y l) e (in_right (x ∷ out) rest y i));
}
cut (x ∷ out) rest (z ∷ first) tail n e early late =
    let a = size_more x out in let b = size_more z first in let c : length (told_frame x.message) ≡ length (told_frame z.message) = ap size_of_first e in
    let same : size first - size out ≡ size (z ∷ first) - size (x ∷ out) = omega (arith, a, b, c) in
    subst (λ k. Parts k n rest) same (cut out rest first tail n (ap rest_of e) (λ y i. early y (inr i)) late)

lower : (marks : List ℕ) (n : ℕ) (out rest : List Said) → AreMarks marks n (out ++ rest) → AreMarks (map (λ m. m - size out) marks) n rest
lower [] n out rest are = λ x i. are x (in_right out rest x i)
lower (mark ∷ marks) n out rest are = (
  subst (λ m. Parts (m - size out) n rest) (sym are.0.place_is) (cut out rest are.0.first are.0.rest n are.0.whole are.0.early are.0.late),
  lower marks (suc n) out rest are.1,
)

-- what may leave
ready_parts : (marks : List ℕ) (n : ℕ) (said : List Said) → AreMarks marks n said → Parts (ready marks (size said)) n said
ready_parts [] n said are = record { first = said; rest = []; whole = sym (append-nil said); place_is = refl; early = are; late = λ x i. absurd i }
ready_parts (mark ∷ marks) n said are =
    let p = are.0 in
    let whole : size said ≡ size (p.first ++ p.rest) = ap size p.whole in
    let both : size (p.first ++ p.rest) ≡ size p.first + size p.rest = ap length (ap told_frames (messages_both p.first p.rest) ∙ frames_both (messages_of p.first) (messages_of p.rest)) ∙ length-append (told_frames (messages_of p.first)) (told_frames (messages_of p.rest)) in
    let place : mark ≡ size p.first = p.place_is in
    let same : mark ≡ min (size said) mark = omega (arith, whole, both, place) in
    subst (λ k. Parts k n said) same p

-- A step: some notes and messages wait after all others

waits : (e f : Endpoint) (h : Host) (t : Server) (notes : List Note) (said : List ToClient) → IsHost e h → IsServer f.role t → f.outgoing ≡ e.outgoing ++ told_frames said → f.notes.confirmed ≡ h.kept → length f.notes.marks ≡ length (h.unkept ++ notes) → AreMarks f.notes.marks h.kept h.unsent → IsHost f (stepped h t notes said)
waits e f h t notes said is server out confirmed count marks =
    let n = h.kept + length (h.unkept ++ notes) in
    record {
      server = server;
      outgoing = out ∙ ap (λ bs. bs ++ told_frames said) is.outgoing ∙ sym (frames_both (messages_of h.unsent) said)
          ∙ ap told_frames (ap (λ ms. messages_of h.unsent ++ ms) (sym (messages_said n said)) ∙ sym (messages_both h.unsent (said_after n said)));
      confirmed = confirmed;
      unconfirmed = count;
      marks = said_more f.notes.marks h.kept n h.unsent said (omega (arith, count)) marks;
    }

-- the notes after a step stand for these of the host
record NotesAre (k : Notes) (h : Host) (notes : List Note) : Type 0 where
  confirmed : k.confirmed ≡ h.kept
  unconfirmed : length k.marks ≡ length (h.unkept ++ notes)
  marks : AreMarks k.marks h.kept h.unsent

count_none : (e : Endpoint) (h : Host) → IsHost e h → NotesAre e.notes h []
count_none e h is = record { confirmed = is.confirmed; unconfirmed = is.unconfirmed ∙ ap length (sym (append-nil h.unkept)); marks = is.marks }

count_more : (e : Endpoint) (h : Host) (x : Note) → IsHost e h → NotesAre (one_more (length e.outgoing) e.notes) h (x ∷ [])
count_more e h x is =
    let a = length-append e.notes.marks (length e.outgoing ∷ []) in let b = length-append h.unkept (x ∷ []) in let c = is.unconfirmed in
    record {
      confirmed = is.confirmed;
      unconfirmed = omega (arith, a, b, c);
      marks = subst (λ k. AreMarks (e.notes.marks ++ k ∷ []) h.kept h.unsent) (ap length (sym is.outgoing)) (noted_more e.notes.marks h.kept h.unsent is.marks);
    }

count_one : (o : Option Change) (e : Endpoint) (h : Host) → IsHost e h → NotesAre (counted (length e.outgoing) (change_row o) e.notes) h (notes_of o)
count_one None e h is = count_none e h is
count_one (Some (change.Registered c i)) e h is = count_more e h (Changed (change.Registered c i)) is
count_one (Some (change.Left c)) e h is = count_more e h (Changed (change.Left c)) is
count_one (Some (change.Judged c number op o)) e h is = count_more e h (Changed (change.Judged c number op o)) is

acted : (bytes : List ℕ) (e f : Endpoint) (h : Host) (s t : State) (m : ToServer) (out : ServerOut) (said : List ToClient) (r : Stepped) → reading.to_server_of bytes ≡ Ok m → IsHost e h → meaning s ≡ h.memory → f.role ≡ role.Server t → HasActed (meaning s) m (meaning t) out r → f.notes ≡ counted (length e.outgoing) r.change e.notes → AreAmong said out.messages → f.outgoing ≡ e.outgoing ++ told_frames said → Judged bytes h f
acted bytes e f h s t m out said r reads is same role a notes among out_is =
    let o = change_of m (case_of h.memory m) in
    let change_is : r.change ≡ change_row o = a.told ∙ ap change_row (a.stepped.change ∙ ap (λ x. change_of m (case_of x m)) same) in
    let now = notes ∙ ap (λ c. counted (length e.outgoing) c e.notes) change_is in
    let are = subst (λ k. NotesAre k h (notes_of o)) (sym now) (count_one o e h is) in (
      m,
      meaning t,
      out.messages,
      said,
      reads,
      subst (λ x. ServerStep x m (meaning t) out.messages) same a.stepped.step,
      among,
      waits e f h (meaning t) (notes_of o) said is (subst (λ x. IsServer x (meaning t)) (sym role) refl) out_is are.confirmed are.unconfirmed are.marks,
    )

-- nothing happened
stays : (e f : Endpoint) (h : Host) → IsHost e h → IsServer f.role h.memory → f.outgoing ≡ e.outgoing → f.notes ≡ e.notes → IsHost f h
stays e f h is server out notes = record {
  server = server;
  outgoing = out ∙ is.outgoing;
  confirmed = ap (λ n. n.confirmed) notes ∙ is.confirmed;
  unconfirmed = ap (λ n. length n.marks) notes ∙ is.unconfirmed;
  marks = subst (λ (n : Notes). AreMarks n.marks h.kept h.unsent) (sym notes) is.marks;
}

still : (e f : Endpoint) (h : Host) (s t : State) (r : Stepped) → IsHost e h → meaning s ≡ h.memory → f.role ≡ role.Server t → meaning t ≡ meaning s → f.outgoing ≡ e.outgoing → r.change ≡ unchanged → f.notes ≡ counted (length e.outgoing) r.change e.notes → IsHost f h
still e f h s t r is same role kept out none notes =
    stays e f h is (subst (λ x. IsServer x h.memory) (sym role) (kept ∙ same)) out (notes ∙ ap (λ c. counted (length e.outgoing) c e.notes) none)

module _ (bytes : List ℕ) (e f : Endpoint) (h : Host) (s t : State) (r : Stepped) (is : IsHost e h) (same : meaning s ≡ h.memory) (to : f.role ≡ role.Server t) (notes : f.notes ≡ counted (length e.outgoing) r.change e.notes) where
  by_code : (m : ToServer) (c : Option Code) → reading.to_server_of bytes ≡ Ok m → Acts m s e.outgoing t f.outgoing r c → IsHost f h ⊎ Judged bytes h f
  by_code m (Some code.Done) reads a = inr (acted bytes e f h s t m a.0 a.0.messages r reads is same to a.1 notes (λ x i. i) a.2)
  by_code m (Some code.Unsaid) reads a = inr (acted bytes e f h s t m a.0 [] r reads is same to a.1 notes (λ x i. absurd i) (a.2 ∙ sym (append-nil e.outgoing)))
  by_code m (Some code.Alarm) reads a = inl (still e f h s t r is same to a.1.same a.2 a.1.told notes)
  by_code m (Some code.OutOfMemory) reads a = inl (still e f h s t r is same to (ap meaning a.0) a.1 a.2 notes)
  by_code m (Some _) reads a = absurd a
  by_code m None reads a = absurd a

  by_fault : (x : Fault) (c : Option Code) → IsRefused x s e.outgoing t f.outgoing r c → IsHost f h ⊎ Judged bytes h f
  by_fault x (Some code.BadMessage) a = inl (still e f h s t r is same to (ap meaning a.0) a.1 a.2 notes)
  by_fault x (Some code.OutOfMemory) a = inl (still e f h s t r is same to (ap meaning a.0) a.1 a.2 notes)
  by_fault x (Some _) a = absurd a
  by_fault x None a = absurd a

  by_read : (x : Result ToServer Fault) → reading.to_server_of bytes ≡ x → HearsRead x s e.outgoing t f.outgoing r → IsHost f h ⊎ Judged bytes h f
  by_read (Ok m) reads a = by_code m (code_of r.reply) reads a
  by_read (Err x) reads a = by_fault x (code_of r.reply) a

-- the roles of a call on a server
on_server : {R : Type 0} (Is : Code → R → Type 0) (Does : State → List ℕ → State → List ℕ → R → Type 0) (a b : Role) (old new : List ℕ) (r : R) (m : Server) → IsServer a m → OnServerRole Is Does a old b new r → (s : State) × (t : State) × (a ≡ role.Server s) × (b ≡ role.Server t) × Does s old t new r
on_server Is Does (role.Server s) (role.Server t) old new r m is d = (s, t, refl, refl, d)
on_server Is Does (role.Server s) (role.Client k) old new r m is d = absurd d
on_server Is Does (role.Server s) (role.Left bye) old new r m is d = absurd d
on_server Is Does (role.Client k) b old new r m is d = absurd is
on_server Is Does (role.Left bye) b old new r m is d = absurd is

server_is : (a : Role) (s : State) (m : Server) → a ≡ role.Server s → IsServer a m → meaning s ≡ m
server_is a s m e is = subst (λ x. IsServer x m) e is

judges : (bytes : List ℕ) (e f : Endpoint) (h : Host) (r : Stepped) → IsHost e h → OnServer IsUnchanged (Hears bytes) e f r → f.notes ≡ counted (length e.outgoing) r.change e.notes → IsHost f h ⊎ Judged bytes h f
judges bytes e f h r is d notes =
    let x = on_server IsUnchanged (Hears bytes) e.role f.role e.outgoing f.outgoing r h.memory is.server d in
    by_read bytes e f h x.0 x.1 r is (server_is e.role x.0 h.memory x.2 is.server) x.3 notes (reading.to_server_of bytes) refl x.4

-- A nudge

nudged : (e f : Endpoint) (h : Host) (s t : State) (c : ℕ) (o : Option Code) → IsHost e h → meaning s ≡ h.memory → f.role ≡ role.Server t → t ≡ s → f.notes ≡ e.notes → NudgesAs (nudge (meaning s) c) e.outgoing f.outgoing o →
    (said : List ToClient) × AreAmong said (nudge h.memory c) × IsHost f (stepped h h.memory [] said)
nudged e f h s t c o is same role kept notes a = by_code o a
  where
    to_it : (said : List ToClient) → f.outgoing ≡ e.outgoing ++ told_frames said → IsHost f (stepped h h.memory [] said)
    to_it said out =
        let are = subst (λ k. NotesAre k h []) (sym notes) (count_none e h is) in
        waits e f h h.memory [] said is (subst (λ x. IsServer x h.memory) (sym role) (ap meaning kept ∙ same)) out are.confirmed are.unconfirmed are.marks

    none : f.outgoing ≡ e.outgoing → (said : List ToClient) × AreAmong said (nudge h.memory c) × IsHost f (stepped h h.memory [] said)
    none out = ([], (λ x i. absurd i), to_it [] (out ∙ sym (append-nil e.outgoing)))

    by_code : (o : Option Code) → NudgesAs (nudge (meaning s) c) e.outgoing f.outgoing o → (said : List ToClient) × AreAmong said (nudge h.memory c) × IsHost f (stepped h h.memory [] said)
    by_code (Some code.Done) b = (nudge (meaning s) c, (λ x i. subst (λ y. In x (nudge y c)) same i), to_it (nudge (meaning s) c) b)
    by_code (Some code.Unsaid) b = none b
    by_code (Some code.OutOfMemory) b = none b
    by_code (Some _) b = absurd b
    by_code None b = absurd b

nudges : (c : ℕ) (e f : Endpoint) (h : Host) (r : Reply) → IsHost e h → OnServer IsCode (Nudges c) e f r → f.notes ≡ e.notes → (said : List ToClient) × AreAmong said (nudge h.memory c) × IsHost f (stepped h h.memory [] said)
nudges c e f h r is d notes =
    let x = on_server IsCode (Nudges c) e.role f.role e.outgoing f.outgoing r h.memory is.server d in
    nudged e f h x.0 x.1 c (code_of r) is (server_is e.role x.0 h.memory x.2 is.server) x.3 x.4.0 notes x.4.2

-- What is confirmed

confirms : (count : ℕ) (e f : Endpoint) (h : Host) → IsHost e h → f.role ≡ e.role → f.outgoing ≡ e.outgoing → count ≤ h.kept + length h.unkept → f.notes ≡ confirmed_to count e.notes → (n : ℕ) × (n ≤ length h.unkept) × IsHost f (record h { kept = h.kept + n; unkept = drop n h.unkept })
confirms count e f h is role out fits notes =
    let n = count - h.kept in
    let k = is.confirmed in let u = is.unconfirmed in
    let le : n ≤ length h.unkept = omega (arith, fits) in
    let few : n ≤ length e.notes.marks = omega (arith, le, u) in
    let by : count - e.notes.confirmed ≡ n = ap (λ x. count - x) k in
    let marks : f.notes.marks ≡ drop n e.notes.marks = ap (λ x. x.marks) notes ∙ ap (λ i. drop i e.notes.marks) by in
    let here = length-drop n e.notes.marks in let there = length-drop n h.unkept in
    let c : f.notes.confirmed ≡ max e.notes.confirmed count = ap (λ x. x.confirmed) notes in
    let l : length f.notes.marks ≡ length (drop n e.notes.marks) = ap length marks in (
      n,
      le,
      record {
        server = subst (λ x. IsServer x h.memory) (sym role) is.server;
        outgoing = out ∙ is.outgoing;
        confirmed = omega (arith, k, c);
        unconfirmed = omega (arith, u, l, here, there);
        marks = subst (λ (xs : List ℕ). AreMarks xs (h.kept + n) h.unsent) (sym marks) (confirmed_more n e.notes.marks h.kept h.unsent few is.marks);
      },
    )

-- no note more is confirmed
none_more : (e f : Endpoint) (h : Host) → IsHost e h → f.role ≡ e.role → f.outgoing ≡ e.outgoing → f.notes ≡ e.notes → (n : ℕ) × (n ≤ length h.unkept) × IsHost f (record h { kept = h.kept + n; unkept = drop n h.unkept })
none_more e f h is role out notes =
    let k = is.confirmed in
    let same : e.notes ≡ confirmed_to 0 e.notes = ap (λ c. record e.notes { confirmed = c }) (let m : e.notes.confirmed ≡ max e.notes.confirmed 0 = omega arith in m) ∙ ap (λ i. record { confirmed = max e.notes.confirmed 0; marks = drop i e.notes.marks }) (let z : 0 ≡ 0 - e.notes.confirmed = omega arith in z) in
    confirms 0 e f h is role out (omega arith) (notes ∙ same)

keeps : (count : ℕ) (e f : Endpoint) (h : Host) (r : Reply) → IsHost e h → ConfirmsNotes count e f r → (n : ℕ) × (n ≤ length h.unkept) × IsHost f (record h { kept = h.kept + n; unkept = drop n h.unkept })
keeps count e f h r is d = by_test (nat_le count (e.notes.confirmed + length e.notes.marks)) refl d.2.1
  where
    by_test : (b : Bool) → nat_le count (e.notes.confirmed + length e.notes.marks) ≡ b → ConfirmsIf b count e.notes f.notes (code_of r) → (n : ℕ) × (n ≤ length h.unkept) × IsHost f (record h { kept = h.kept + n; unkept = drop n h.unkept })
    by_test true fits x =
        let k = is.confirmed in let u = is.unconfirmed in
        let le = leb-true count (e.notes.confirmed + length e.notes.marks) fits in
        confirms count e f h is d.0 d.1 (omega (arith, k, u, le)) x.1
    by_test false fits x = none_more e f h is d.0 d.1 x.1

-- What is given out

gives : (e f : Endpoint) (h : Host) (was now : List ℕ) (n : ℕ) → IsHost e h → f.role ≡ e.role → Parts n h.kept h.unsent → TakesAs n was now e f (Some code.Done) → Gives h f was now
gives e f h was now n is role p a =
    let frames = told_frames (messages_of p.first) in
    let others = told_frames (messages_of p.rest) in
    let all : e.outgoing ≡ frames ++ others = is.outgoing ∙ ap (λ xs. told_frames (messages_of xs)) p.whole ∙ ap told_frames (messages_both p.first p.rest) ∙ frames_both (messages_of p.first) (messages_of p.rest) in
    let n_is : n ≡ length frames = p.place_is in
    let some : take n e.outgoing ≡ frames = ap (λ (i : ℕ). take i e.outgoing) n_is ∙ ap (λ bs. take (length frames) bs) all ∙ take-append-le (length frames) frames others (omega arith) ∙ take_all (length frames) frames (omega arith) in
    let left : drop n e.outgoing ≡ others = ap (λ (i : ℕ). drop i e.outgoing) n_is ∙ ap (λ bs. drop (length frames) bs) all ∙ drop-append-le (length frames) frames others (omega arith) ∙ ap (λ bs. bs ++ others) (drop_all (length frames) frames (omega arith)) in
    let marks : f.notes.marks ≡ map (λ m. m - length frames) e.notes.marks = ap (λ k. k.marks) a.1 ∙ ap (λ (i : ℕ). map (λ m. m - i) e.notes.marks) n_is in
    let same : length (map (λ (m : ℕ). m - length frames) e.notes.marks) ≡ length e.notes.marks = length-map e.notes.marks (λ (m : ℕ). m - length frames) in
    record {
      given = p.first;
      rest = p.rest;
      whole = p.whole;
      may_leave = p.early;
      has_to_wait = p.late;
      bytes = a.2 ∙ ap (λ bs. bs ++ drop n was) some ∙ ap (λ (i : ℕ). frames ++ drop i was) n_is;
      after = record {
        server = subst (λ x. IsServer x h.memory) (sym role) is.server;
        outgoing = a.0 ∙ left;
        confirmed = ap (λ k. k.confirmed) a.1 ∙ is.confirmed;
        unconfirmed = ap length marks ∙ same ∙ is.unconfirmed;
        marks = subst (λ (xs : List ℕ). AreMarks xs h.kept p.rest) (sym marks) (lower e.notes.marks h.kept p.first p.rest (subst (λ (xs : List Said). AreMarks e.notes.marks h.kept xs) p.whole is.marks));
      };
    }

releases : (e f : Endpoint) (h : Host) (was now : List ℕ) (r : Reply) → IsHost e h → Takes was now e f r → (IsHost f h × (now ≡ was)) ⊎ Gives h f was now
releases e f h was now r is d = by_test (is_held e) d
  where
    it : Parts (ready_of e) h.kept h.unsent
    it = subst (λ (i : ℕ). Parts (ready e.notes.marks i) h.kept h.unsent) (ap length (sym is.outgoing)) (ready_parts e.notes.marks h.kept h.unsent is.marks)

    same : f.role ≡ e.role → IsServer f.role h.memory
    same role = subst (λ x. IsServer x h.memory) (sym role) is.server

    by_code : (c : Option Code) → f.role ≡ e.role → TakesAs (ready_of e) was now e f c → (IsHost f h × (now ≡ was)) ⊎ Gives h f was now
    by_code (Some code.Done) role a = inr (gives e f h was now (ready_of e) is role it a)
    by_code (Some code.TooShort) role a = inl (stays e f h is (same role) a.1 a.2, a.3)
    by_code (Some _) role a = absurd a
    by_code None role a = absurd a

    by_test : (b : Bool) → TakesUnless b was now e f r → (IsHost f h × (now ≡ was)) ⊎ Gives h f was now
    by_test true a = inl (stays e f h is (same (ap (λ x. x.role) a.0)) (ap (λ x. x.outgoing) a.0) (ap (λ x. x.notes) a.0), a.1)
    by_test false a = by_code (code_of r) a.0 a.2

-- A start

started_role : (d : Durable) (a : Role) → IsStartedRole d a → IsServer a (start d)
started_role d (role.Server s) h = h
started_role d (role.Client k) h = absurd h
started_role d (role.Left bye) h = absurd h

starts : (l : Limits) (epoch : ℕ) (entries : List Row) (records : List RecordRow) (e : Endpoint) (r : Reply) → OpensClosed l epoch entries records (Some e) r → IsHost e (record { memory = start (parts l epoch entries records); kept = 0; unkept = Started l ∷ []; unsent = [] })
starts l epoch entries records e r d = record {
  server = started_role (parts l epoch entries records) e.role d.3;
  outgoing = d.4;
  confirmed = ap (λ n. n.confirmed) d.5;
  unconfirmed = ap (λ n. length n.marks) d.5;
  marks = subst (λ (n : Notes). AreMarks n.marks 0 []) (sym d.5) (
    record { first = []; rest = []; whole = refl; place_is = refl; early = λ x i. absurd i; late = λ x i. absurd i },
    (λ x i. absurd i),
  );
}

-- A read

reads_role : (lo hi : ℕ) (e : Endpoint) (h : Host) (was now : List Row) (r : Page) → IsHost e h → r.after ≡ rests_on e.notes (code_of r.reply) → (a : Role) → IsServer a h.memory → OfServer (IsUnfilled was now) (ShowsPage lo hi was now) a r → Reads lo hi was now h r
reads_role lo hi e h was now r is after (role.Server s) server d = record {
  rows = subst (λ (t : Server). Fills (range t.durable.index lo hi) hi was now (r.reply.detail, r.next)) server d.1;
  after = after ∙ ap (λ (c : Option Code). rests_on e.notes c) d.0
      ∙ ap (λ (n : ℕ). min (n + length e.notes.marks) (2 ^ 64 - 1)) is.confirmed
      ∙ ap (λ (n : ℕ). min (h.kept + n) (2 ^ 64 - 1)) is.unconfirmed;
}
reads_role lo hi e h was now r is after (role.Client k) server d = absurd server
reads_role lo hi e h was now r is after (role.Left bye) server d = absurd server

reads : (lo hi : ℕ) (e : Endpoint) (h : Host) (was now : List Row) (r : Page) → IsHost e h → OfServer (IsUnfilled was now) (ShowsPage lo hi was now) e.role r → r.after ≡ rests_on e.notes (code_of r.reply) → Reads lo hi was now h r
reads lo hi e h was now r is d after = reads_role lo hi e h was now r is after e.role is.server d

pub calls_are_moves : CallsAreMoves
calls_are_moves = record { starts = starts; judges = judges; nudges = nudges; keeps = keeps; releases = releases; reads = reads }
