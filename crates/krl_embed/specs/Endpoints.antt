-- What a call does with what a handle keeps.
use Rattle.std.specs.Prelude.{◌≡◌, ℕ, List, Option, Some, None}
use Rattle.krl_client.specs.Fields.{KeptClient}
use Rattle.krl_server.specs.declared.state.State.{State}
use Rattle.krl_embed.specs.declared.endpoint.Endpoint.{Endpoint}
use Rattle.krl_embed.specs.declared.endpoint.Role.{Role}
use Rattle.krl_embed.specs.declared.endpoint.Role.TheVariants as role
use Rattle.krl_embed.specs.declared.reply.Reply.{Reply}
use Rattle.krl_embed.specs.declared.code.Code.{Code}
use Rattle.krl_embed.specs.declared.code.Code.TheVariants as code
use Rattle.krl_embed.specs.Replies.{code_of}

-- this code, and nothing more to report
abbrev pub IsCode : Code → Reply → Type 0
IsCode c r = (code_of r ≡ Some c) × (r.detail ≡ 0)

-- this code, and the room is as it was
abbrev pub IsUntold : {X : Type 0} → List X → List X → Code → Reply → Type 0
IsUntold was now c r = IsCode c r × (now ≡ was)

-- what is closed stays closed, and the answer reports it; to what is open the call does this
abbrev pub OnHandle : {R : Type 0} → (Code → R → Type 0) → (Endpoint → Endpoint → R → Type 0)
    → Option Endpoint → Option Endpoint → R → Type 0
OnHandle Is Does None None r = Is code.Closed r
OnHandle Is Does None (Some f) r = ⊥
OnHandle Is Does (Some e) None r = ⊥
OnHandle Is Does (Some e) (Some f) r = Does e f r

-- the same of a call that changes nothing
abbrev pub Shows : {R : Type 0} → (Code → R → Type 0) → (Role → R → Type 0) → Option Endpoint → R → Type 0
Shows Is Does None r = Is code.Closed r
Shows Is Does (Some e) r = Does e.role r

-- what stays if the call finds another role than it is for
abbrev pub Stays : Code → Role → List ℕ → Role → List ℕ → Reply → Type 0
Stays c was old now new r = (now ≡ was) × (new ≡ old) × IsCode c r

-- a call on a client, which is there before and after
abbrev pub OnClientRole : (KeptClient → List ℕ → KeptClient → List ℕ → Reply → Type 0)
    → Role → List ℕ → Role → List ℕ → Reply → Type 0
OnClientRole Does (role.Client k) old (role.Client l) new r = Does k old l new r
OnClientRole Does (role.Client k) old (role.Left bye) new r = ⊥
OnClientRole Does (role.Client k) old (role.Server s) new r = ⊥
OnClientRole Does (role.Left bye) old now new r = Stays code.Gone (role.Left bye) old now new r
OnClientRole Does (role.Server s) old now new r = Stays code.NoClient (role.Server s) old now new r

abbrev pub OnClient : (KeptClient → List ℕ → KeptClient → List ℕ → Reply → Type 0) → Endpoint → Endpoint → Reply →
    Type 0
OnClient Does e f r = OnClientRole Does e.role e.outgoing f.role f.outgoing r

-- what a call reports of a client
abbrev pub OfClient : {R : Type 0} → (Code → R → Type 0) → (KeptClient → R → Type 0) → Role → R → Type 0
OfClient Is Tells (role.Client k) r = Tells k r
OfClient Is Tells (role.Left bye) r = Is code.Gone r
OfClient Is Tells (role.Server s) r = Is code.NoClient r

-- and of a server
abbrev pub OfServer : {R : Type 0} → (Code → R → Type 0) → (State → R → Type 0) → Role → R → Type 0
OfServer Is Tells (role.Server s) r = Tells s r
OfServer Is Tells (role.Client k) r = Is code.NoServer r
OfServer Is Tells (role.Left bye) r = Is code.NoServer r
