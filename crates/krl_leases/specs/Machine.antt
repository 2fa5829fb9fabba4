-- One incarnation of a client, its connection, and the servers of one store. Only the last one to start is the store's:
-- an older one that still runs is a server that has stopped, since the store refuses what it asks.
use Rattle.std.specs.Prelude.{◌≡◌, ◌⊎◌, ℕ, ◌+◌, Bool, true, false, List, [], ◌∷◌, Option, Some, None}
use Rattle.krl_leases.specs.declared.length.Terms.{Terms}
use Rattle.krl_leases.specs.declared.lease.Lease.{Lease}
use Rattle.krl_leases.specs.declared.until.Until.{Until}
use Rattle.krl_leases.specs.declared.kept.Kept.{Kept}
use Rattle.krl_leases.specs.Clients.{no_terms, takes, with_terms}
use Rattle.krl_leases.specs.Servers.{has_come, since, signed, kept_from, kept_registered, old_end, restarted, revised}
use Rattle.krl_leases.specs.Clocks.{Clocks, Limits, MayGrant}

-- what a client's host sends: when, and by a lease of which length the client lives
pub record Sign : Type 0 where
  pub moment : ℕ
  pub said : ℕ

-- what a server's host answers: to the sign of which moment, and a lease of which length
pub record Grant : Type 0 where
  pub moment : ℕ
  pub length : ℕ

pub record Server : Type 0 where
  pub machine : ℕ  -- whose clock it reads
  pub terms : Terms
  pub old : Until  -- the end of older servers' leases
  pub until : Until  -- the client's, if the incarnation is registered

pub data Standing : Type 0 where
  Unknown : Standing
  Registered : Standing
  Evicted : Standing

-- Moments are of real time. Nobody reads them but through a clock
pub record State : Type 0 where
  pub now : ℕ
  -- the client
  pub lease : Lease
  pub lives_by : Option Grant  -- which terms it took last
  pub is_greeted : Bool  -- it took terms on this connection
  -- the connection: messages may be lost, repeated and delayed
  pub is_connected : Bool  -- to the server that runs
  pub signs : List Sign  -- sent to this server
  pub waiting : List Grant  -- it knows until when they last, and asks its store whether it is still the store's server
  pub grants : List Grant  -- answered on this connection
  pub says_hello : Bool  -- a Hello was sent to this server
  -- the server
  pub server : Option Server
  pub kept : Kept
  pub standing : Standing

pub data Event : Type 0 where
  Pass : ℕ → Event
  Connect : Event
  Say : Event
  Hear : Sign → Event
  Confirm : Grant → Event
  Take : Grant → Event
  Hello : Event
  Register : Event
  Stop : Event
  Start : ℕ → Terms → Event
  Revise : Event
  Evict : Event

-- x stands in the list
abbrev pub In : {A : Type 0} → A → List A → Type 0
In x [] = ⊥
In x (y ∷ ys) = (x ≡ y) ⊎ In x ys

-- nothing was sent
abbrev pub begun : State
begun = record {
  now = 0;
  lease = no_terms;
  lives_by = None;
  is_greeted = false;
  is_connected = false;
  signs = [];
  waiting = [];
  grants = [];
  says_hello = false;
  server = None;
  kept = record { longest = 0; is_unleased = false };
  standing = Unknown;
}

-- The client's host

abbrev pub connected : State → State
connected w = record w { is_connected = true; is_greeted = false; waiting = []; grants = [] }

abbrev pub said : State → State
said w = record w { signs = record { moment = w.now; said = w.lease.length } ∷ w.signs }

-- they are taken by the client's clock
abbrev pub Takes : Clocks → State → Grant → Type 0
Takes clocks w g = takes w.lease (clocks.client g.moment) (clocks.client w.now) ≡ true

abbrev pub taken : Clocks → State → Grant → State
taken clocks w g =
    record w {
      lease = with_terms w.lease (clocks.client g.moment) g.length (clocks.client w.now);
      lives_by = Some g;
      is_greeted = true;
    }

-- The server's host

abbrev pub with_until : State → Server → Until → State
with_until w s until = record w { server = Some (record s { until = until }) }

-- only then does it ask its store
abbrev pub heard : Clocks → State → Server → Sign → State
heard clocks w s sign =
    record (with_until w s (signed s.terms s.until sign.said (clocks.server s.machine w.now))) {
      waiting = record { moment = sign.moment; length = s.terms.length } ∷ w.waiting;
    }

-- the store has answered that it is, and only then are the terms sent
abbrev pub confirmed : State → Grant → State
confirmed w g = record w { grants = g ∷ w.grants }

abbrev pub registered : Clocks → State → Server → State
registered clocks w s =
    record (with_until w s (since s.terms (clocks.server s.machine w.now))) {
      kept = kept_registered w.kept s.terms;
      standing = Registered;
    }

-- nothing comes of what was sent to it, nor of what it asks its store
abbrev pub stopped : State → State
stopped w = record w { server = None; is_connected = false; signs = []; waiting = []; says_hello = false }

abbrev pub running : Clocks → State → Kept → ℕ → Terms → Server
running clocks w kept machine terms = record {
  machine = machine;
  terms = terms;
  old = old_end kept terms (clocks.server machine w.now);
  until = restarted kept terms (clocks.server machine w.now);
}

abbrev pub started : Clocks → State → ℕ → Terms → State
started clocks w machine terms =
    let kept = kept_from w.kept terms in
    record w { server = Some (running clocks w kept machine terms); kept = kept }

abbrev pub kept_anew : Clocks → State → Server → State
kept_anew clocks w s = record w { kept = revised w.kept s.terms s.old s.until (clocks.server s.machine w.now) }

-- What may happen, and what it leaves. The client sends a Hello only if it took terms on this connection. A server
-- answers no incarnation that it evicted

abbrev pub Goes : Limits → Clocks → State → Event → State → Type 0
Goes limits clocks w (Pass n) w' = w' ≡ record w { now = w.now + n }
Goes limits clocks w Connect w' = (s : Server) × (w.server ≡ Some s) × (w' ≡ connected w)
Goes limits clocks w Say w' = (w.is_connected ≡ true) × (w' ≡ said w)
Goes limits clocks w (Hear sign) w' =
    (s : Server) × (w.server ≡ Some s) × In sign w.signs × (w.standing ≡ Evicted → ⊥) × (w' ≡ heard clocks w s sign)
Goes limits clocks w (Confirm g) w' =
    (s : Server) × (w.server ≡ Some s) × In g w.waiting × (w' ≡ confirmed w g)
Goes limits clocks w (Take g) w' = In g w.grants × Takes clocks w g × (w' ≡ taken clocks w g)
Goes limits clocks w Hello w' =
    (w.is_connected ≡ true) × (w.is_greeted ≡ true) × (w' ≡ record w { says_hello = true })
Goes limits clocks w Register w' =
    (s : Server) × (w.server ≡ Some s) × (w.says_hello ≡ true) × (w.standing ≡ Unknown)
    × (w' ≡ registered clocks w s)
Goes limits clocks w Stop w' = w' ≡ stopped w
Goes limits clocks w (Start machine terms) w' =
    (w.server ≡ None) × MayGrant limits terms × (w' ≡ started clocks w machine terms)
Goes limits clocks w Revise w' = (s : Server) × (w.server ≡ Some s) × (w' ≡ kept_anew clocks w s)
Goes limits clocks w Evict w' =
    (s : Server) × (w.server ≡ Some s) × (w.standing ≡ Registered)
    × (has_come s.until (clocks.server s.machine w.now) ≡ true) × (w' ≡ record w { standing = Evicted })

abbrev pub Runs : Limits → Clocks → State → List Event → State → Type 0
Runs limits clocks w [] w' = w' ≡ w
Runs limits clocks w (e ∷ es) w' = (mid : State) × Goes limits clocks w e mid × Runs limits clocks mid es w'
