-- What a client sends waits to be sent, and so a call has done what it should.
use Rattle.std.proofs.Common.{◌≡◌, ◌∙◌, ℕ, List, [], ◌∷◌, Option, Some, None, Result, Ok, Err, ap, sym, subst}
use Rattle.std.specs.Prelude.{IfOk, IfErr, OnOk, OnErr}
use Rattle.std.specs.Global.{Vec}
use Rattle.krl_messages.specs.declared.to_server.ToServer.{ToServer}
use Rattle.krl_client.specs.declared.refused.CommandRefused.{CommandRefused}
use Rattle.krl_client.specs.Clients.{Client}
use Rattle.krl_client.specs.Fields.{KeptClient, meaning}
use Rattle.krl_client.specs.FieldSteps.{IsDue}
use Rattle.krl_embed.specs.declared.code.Code.{Code}
use Rattle.krl_embed.specs.declared.code.Code.TheVariants as code
use Rattle.krl_embed.specs.Frames.{said_frames, WaitsBy}
use Rattle.krl_embed.specs.Clients.{refusal_code, Did, Commanded, SaidOr}

-- it sends these
pub did : (Becomes : KeptClient → List ToServer → Type 0) (k l : KeptClient) (old new : List ℕ) (list : List ToServer)
    (c : Option Code) → Becomes l list → WaitsBy (said_frames list) old new c → Did Becomes k old l new c
did Becomes k l old new list (Some code.Done) is waits = (list, is, waits)
did Becomes k l old new list (Some code.Unsaid) is waits = (list, is, waits)
did Becomes k l old new list (Some _) is waits = absurd waits
did Becomes k l old new list None is waits = absurd waits

-- there was no memory
pub did_not : (Becomes : KeptClient → List ToServer → Type 0) (k l : KeptClient) (old new : List ℕ) (c : Option Code)
    → c ≡ Some code.OutOfMemory → l ≡ k → new ≡ old → Did Becomes k old l new c
did_not Becomes k l old new c is same kept =
    subst (λ (x : Option Code). Did Becomes k old l new x) (sym is) (same, kept)

pub commanded : (due : Option CommandRefused) (next : Client) (m : ToServer) (k l : KeptClient) (old new : List ℕ)
    (res : Result (Vec ToServer) CommandRefused) (c : Option Code)
    → IfErr res (IsDue due) → OnErr res (l ≡ k) → OnOk res (due ≡ None) → OnOk res (meaning l ≡ next)
    → IfOk res (λ list. list.items ≡ m ∷ []) → SaidOr res old new c → Commanded due next m k old l new c
commanded (Some due) next m k l old new (Ok list) c is same none then says said = absurd cc
commanded None next m k l old new (Ok list) c is same none then says said =
    did (λ x ms. (meaning x ≡ next) × (ms ≡ m ∷ [])) k l old new list.items c (then, says) said
commanded (Some due) next m k l old new (Err r) c is same none then says said =
    (same, said.0, said.1 ∙ ap (λ (x : CommandRefused). Some (refusal_code x)) is)
commanded None next m k l old new (Err r) c is same none then says said =
    did_not (λ x ms. (meaning x ≡ next) × (ms ≡ m ∷ [])) k l old new c
    (said.1 ∙ ap (λ (x : CommandRefused). Some (refusal_code x)) is) same said.0
