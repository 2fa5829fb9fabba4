-- A host that keeps what is reported to it has what survives.
use Rattle.std.proofs.Common.{◌≡◌, ◌∙◌, ℕ, ◌-◌, List, [], ◌∷◌, length, take, Option, Some, None, Result, Ok, Err, ap, refl, sym}
use Rattle.std.proofs.Math.ListN.{replicate}
use Rattle.std.proofs.Math.Seq.{take-append_seam}
use Rattle.krl_messages.specs.Values.{Value}
use Rattle.krl_messages.specs.Padded.{padded}
use Rattle.krl_messages.specs.declared.outcome.Outcome.{Outcome}
use Rattle.krl_messages.specs.declared.outcome.Outcome.TheVariants as outcome
use Rattle.krl_messages.specs.declared.write_op.WriteOp.{WriteOp}
use Rattle.krl_messages.specs.declared.write_op.WriteOp.TheVariants as write
use Rattle.krl_messages.specs.declared.to_server.ToServer.{ToServer}
use Rattle.krl_wire.specs.declared.fault.Fault.{Fault}
use Rattle.krl_wire.specs.Reading as reading
use Rattle.krl_durable.specs.declared.change.Change.{Change}
use Rattle.krl_durable.specs.declared.change.Change.TheVariants as change
use Rattle.krl_durable.specs.Changes.{changed_by}
use Rattle.krl_server.specs.Servers.{Server}
use Rattle.krl_server.specs.declared.state.State.{State}
use Rattle.krl_server.specs.declared.out.ServerOut.{ServerOut}
use Rattle.krl_server.specs.StateMeaning.{meaning}
use Rattle.krl_embed.specs.declared.changes.ChangeRow.{ChangeRow}
use Rattle.krl_embed.specs.declared.code.Code.{Code}
use Rattle.krl_embed.specs.declared.code.Code.TheVariants as code
use Rattle.krl_embed.specs.declared.server_calls.Stepped.{Stepped}
use Rattle.krl_embed.specs.Replies.{code_of}
use Rattle.krl_embed.specs.Changes.{unchanged, change_row, outcome_number, write_number, write_row}
use Rattle.krl_embed.specs.Records.{outcome_of}
use Rattle.krl_embed.specs.Servers.{Acts, IsRefused, HasActed, HearsRead}
use Rattle.krl_embed.specs.Kept.{write_named, judged_named, change_named, kept, all_kept, AllAnswered, ChangesAreKept}

value_back : (v : Value) → take (length v) (padded v) ≡ v
value_back v = take-append_seam v (replicate (32 - length v) 0)

write_back : (op : WriteOp) → write_named (write_number op) (write_row op) ≡ op
write_back (write.Insert k v) = ap (write.Insert k) (value_back v)
write_back (write.Put k v) = ap (write.Put k) (value_back v)
write_back (write.Delete k) = refl

outcome_back : (o : Outcome) → outcome_of (outcome_number o) ≡ Some o
outcome_back outcome.Applied = refl
outcome_back _ = refl

named : (o : Option Change) → change_named (change_row o) ≡ o
named None = refl
named (Some (change.Registered c incarnation)) = refl
named (Some (change.Left c)) = refl
named (Some (change.Judged c number op o)) =
    ap (λ (x : WriteOp). judged_named c number x (outcome_of (outcome_number o))) (write_back op)
    ∙ ap (judged_named c number op) (outcome_back o)

-- the change is reported
told : (s t : Server) (m : ToServer) (out : ServerOut) (r : Stepped) → HasActed s m t out r
    → t.durable ≡ kept r s.durable
told s t m out r acted =
    acted.change.makes
    ∙ ap (λ (o : Option Change). changed_by o s.durable) (sym (ap change_named acted.told ∙ named out.change))

-- nothing has changed, and so it is reported
same : (s t : Server) (r : Stepped) → t ≡ s → r.change ≡ unchanged → t.durable ≡ kept r s.durable
same s t r is none =
    ap (λ (x : Server). x.durable) is
    ∙ ap (λ (x : ChangeRow). changed_by (change_named x) s.durable) (sym none)

acts : (m : ToServer) (s t : State) (old new : List ℕ) (r : Stepped) (c : Option Code) → Acts m s old t new r c
    → (meaning t).durable ≡ kept r (meaning s).durable
acts m s t old new r (Some code.Done) h = told (meaning s) (meaning t) m h.0 r h.1
acts m s t old new r (Some code.Unsaid) h = told (meaning s) (meaning t) m h.0 r h.1
acts m s t old new r (Some code.Alarm) h = same (meaning s) (meaning t) r h.1.same h.1.told
acts m s t old new r (Some code.OutOfMemory) h = same (meaning s) (meaning t) r (ap meaning h.0) h.2
acts m s t old new r (Some _) h = absurd h
acts m s t old new r None h = absurd h

refuses : (f : Fault) (s t : State) (old new : List ℕ) (r : Stepped) (c : Option Code) → IsRefused f s old t new r c
    → (meaning t).durable ≡ kept r (meaning s).durable
refuses f s t old new r (Some code.BadMessage) h = same (meaning s) (meaning t) r (ap meaning h.0) h.2
refuses f s t old new r (Some code.OutOfMemory) h = same (meaning s) (meaning t) r (ap meaning h.0) h.2
refuses f s t old new r (Some _) h = absurd h
refuses f s t old new r None h = absurd h

hears : (read : Result ToServer Fault) (s t : State) (old new : List ℕ) (r : Stepped)
    → HearsRead read s old t new r → (meaning t).durable ≡ kept r (meaning s).durable
hears (Ok m) s t old new r h = acts m s t old new r (code_of r.reply) h
hears (Err f) s t old new r h = refuses f s t old new r (code_of r.reply) h

all : (s t : State) (rs : List Stepped) → AllAnswered s rs t
    → (meaning t).durable ≡ all_kept rs (meaning s).durable
all s t [] is = ap (λ (x : State). (meaning x).durable) is
all s t (r ∷ rs) is =
    all is.0 t rs is.2
    ∙ ap (all_kept rs) (hears (reading.to_server_of is.1.0) s is.0 is.1.1 is.1.2 r is.1.3)

pub all_are_kept : ChangesAreKept
all_are_kept = record {
  named = named;
  opened = λ l epoch entries records s is. ap (λ (x : Server). x.durable) is;
  kept = all;
}
