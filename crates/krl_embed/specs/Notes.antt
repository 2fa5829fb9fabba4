-- What a handle has reported to its host, which the host keeps, and what of it the host has confirmed.
use Rattle.std.specs.Prelude.{◌≡◌, ◌<◌, ℕ, ◌+◌, ◌-◌, List, [], ◌∷◌, ◌++◌, length, take, drop, map, Bool, true, false, ◌&&◌, not, nat_eq, nat_le, Option, Some, None, if◌then◌else◌, min, max, ◌^◌}
use Rattle.krl_embed.specs.declared.code.Code.{Code}
use Rattle.krl_embed.specs.declared.code.Code.TheVariants as code
use Rattle.krl_embed.specs.declared.changes.ChangeRow.{ChangeRow}
use Rattle.krl_embed.specs.declared.endpoint.Endpoint.{Endpoint}
use Rattle.krl_embed.specs.declared.notes.Notes.{Notes}
use Rattle.krl_embed.specs.declared.reply.Reply.{Reply}
use Rattle.krl_embed.specs.Replies.{code_of}

-- the opening is reported, and not confirmed: what is sent afterwards rests on it
abbrev pub opening : Notes
opening = record { confirmed = 0; marks = 0 ∷ [] }

-- so many are reported: those that are confirmed, and one for each mark
abbrev pub reported : Notes → ℕ
reported n = n.confirmed + length n.marks

-- no greater number is shown
abbrev pub shown : Notes → ℕ
shown n = min (reported n) (2 ^ 64 - 1)

-- one more, on which the bytes that wait do not rest
abbrev pub one_more : ℕ → Notes → Notes
one_more waiting n = record n { marks = n.marks ++ waiting ∷ [] }

abbrev pub one_less : Notes → Notes
one_less n = record n { marks = take (length n.marks - 1) n.marks }

-- what a step reported is one more, if it is a change
abbrev pub counted : ℕ → ChangeRow → Notes → Notes
counted waiting r n = if nat_eq r.kind 0 then n else one_more waiting n

-- of so many bytes these rest on confirmed notes only: those before the first mark
abbrev pub ready : List ℕ → ℕ → ℕ
ready [] waiting = waiting
ready (mark ∷ marks) waiting = min waiting mark

-- so many bytes are given out
abbrev pub given : ℕ → Notes → Notes
given count n = record n { marks = map (λ mark. mark - count) n.marks }

-- the first so many are confirmed, and stay so
abbrev pub confirmed_to : ℕ → Notes → Notes
confirmed_to count n = record { confirmed = max n.confirmed count; marks = drop (count - n.confirmed) n.marks }

abbrev pub ConfirmsIf : Bool → ℕ → Notes → Notes → Option Code → Type 0
ConfirmsIf true count old new c = (c ≡ Some code.Done) × (new ≡ confirmed_to count old)
ConfirmsIf false count old new c = (c ≡ Some code.NotTold) × (new ≡ old)

-- Done: the first so many are confirmed. NotTold: fewer were reported, and nothing changes
abbrev pub Confirms : ℕ → Notes → Notes → Reply → Type 0
Confirms count old new r =
    (r.detail ≡ shown old) × ConfirmsIf (nat_le count (reported old)) count old new (code_of r)

-- of what a handle keeps nothing else changes
abbrev pub ConfirmsNotes : ℕ → Endpoint → Endpoint → Reply → Type 0
ConfirmsNotes count e f r = (f.role ≡ e.role) × (f.outgoing ≡ e.outgoing) × Confirms count e.notes f.notes r

-- the number of bytes that may leave
abbrev pub ready_of : Endpoint → ℕ
ready_of e = ready e.notes.marks (length e.outgoing)

-- something waits, and none of it may leave
abbrev pub is_held : Endpoint → Bool
is_held e = nat_eq (ready_of e) 0 && not (nat_eq (length e.outgoing) 0)

-- Done: so many bytes of what waits are in front of the room's old bytes, and the rest waits; TooShort: the room is too
-- short, and nothing changes
abbrev pub TakesAs : ℕ → List ℕ → List ℕ → Endpoint → Endpoint → Option Code → Type 0
TakesAs n was now e f (Some code.Done) =
    (f.outgoing ≡ drop n e.outgoing) × (f.notes ≡ given n e.notes) × (now ≡ take n e.outgoing ++ drop n was)
TakesAs n was now e f (Some code.TooShort) =
    (length was < n) × (f.outgoing ≡ e.outgoing) × (f.notes ≡ e.notes) × (now ≡ was)
TakesAs n was now e f _ = ⊥

-- so many bytes may leave; the detail is that number
abbrev pub TakesReady : ℕ → List ℕ → List ℕ → Endpoint → Endpoint → Reply → Type 0
TakesReady n was now e f r = (f.role ≡ e.role) × (r.detail ≡ n) × TakesAs n was now e f (code_of r)

abbrev pub TakesUnless : Bool → List ℕ → List ℕ → Endpoint → Endpoint → Reply → Type 0
TakesUnless true was now e f r = (f ≡ e) × (now ≡ was) × (code_of r ≡ Some code.Unkept) × (r.detail ≡ shown e.notes)
TakesUnless false was now e f r = TakesReady (ready_of e) was now e f r

-- what rests on confirmed notes only is taken. Unkept: that is nothing, and something waits
abbrev pub Takes : List ℕ → List ℕ → Endpoint → Endpoint → Reply → Type 0
Takes was now e f r = TakesUnless (is_held e) was now e f r

-- the notes of what a handle keeps, if it is open
abbrev pub notes_of : Option Endpoint → Option Notes
notes_of None = None
notes_of (Some e) = Some e.notes

-- the notes after a step of a server that answered this change
abbrev pub counted_in : ChangeRow → Option Endpoint → Option Notes
counted_in r None = None
counted_in r (Some e) = Some (counted (length e.outgoing) r e.notes)
