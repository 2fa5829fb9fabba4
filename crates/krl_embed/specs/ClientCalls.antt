-- The calls on a client, as what its host does.
use Rattle.std.specs.Prelude.{◌≡◌, ◌⊎◌, ℕ, Bool, true, false, List, [], ◌∷◌, ◌++◌, length, drop, slice_get, Option, Some, None, Ok}
use Rattle.krl_modes.specs.Names.{all_modes}
use Rattle.krl_modes.specs.Spans.{Bounds}
use Rattle.krl_modes.specs.declared.mode.Mode.{Mode}
use Rattle.krl_messages.specs.declared.to_client.ToClient.{ToClient}
use Rattle.krl_messages.specs.declared.to_server.ToServer.{ToServer}
use Rattle.krl_messages.specs.declared.write_op.WriteOp.{WriteOp}
use Rattle.krl_client.specs.Clients.{Client, begun, free_pin}
use Rattle.krl_client.specs.Commands as commands
use Rattle.krl_client.specs.FieldSteps.{Follows, IsTick}
use Rattle.krl_client.specs.Fields.{meaning}
use Rattle.krl_client.specs.Messages.{client_case_of}
use Rattle.krl_client.specs.Ticks.{says_hello}
use Rattle.krl_hosts.specs.Hosts.{AreAmong}
use Rattle.krl_wire.specs.Reading as reading
use Rattle.krl_embed.specs.declared.endpoint.Endpoint.{Endpoint}
use Rattle.krl_embed.specs.declared.endpoint.Role.{Role}
use Rattle.krl_embed.specs.declared.endpoint.Role.TheVariants as role
use Rattle.krl_embed.specs.declared.reply.Reply.{Reply}
use Rattle.krl_embed.specs.Clients.{Hears, Ticks, Locks, Writes, WritesTaking, Lowers, Pins, Unpins}
use Rattle.krl_embed.specs.Endpoints.{OnClient}
use Rattle.krl_embed.specs.Frames.{said_frames}
use Rattle.krl_embed.specs.Notes.{ConfirmsNotes, Takes}
use Rattle.krl_embed.specs.Opening.{BeginsClosed}
use Rattle.krl_embed.specs.Shown.{Leaves}

pub data Standing : Type 0 where
  Runs : Client → Standing
  HasLeft : ToServer → Standing  -- with this Bye, which it may send again

-- the host of a client. Its one note is the client's incarnation
pub record ClientHost : Type 0 where
  pub standing : Standing
  pub is_kept : Bool  -- the incarnation is on the disk
  pub unsent : List ToServer  -- what the client has produced and the host has not sent, the oldest first

abbrev pub IsClient : Role → Standing → Type 0
IsClient (role.Client k) (Runs c) = meaning k ≡ c
IsClient (role.Client k) (HasLeft m) = ⊥
IsClient (role.Left bye) (HasLeft m) = bye ≡ m ∷ []
IsClient (role.Left bye) (Runs c) = ⊥
IsClient (role.Server s) c = ⊥

-- the note holds all back until it is kept
abbrev pub HoldsBack : Bool → List ℕ → Type 0
HoldsBack false marks = marks ≡ 0 ∷ []
HoldsBack true marks = marks ≡ []

-- the handle keeps this host's client, what that has produced and the host has not sent, and whether its note is kept
pub record IsClientHost (e : Endpoint) (h : ClientHost) : Type 0 where
  pub client : IsClient e.role h.standing
  pub outgoing : e.outgoing ≡ said_frames h.unsent
  pub notes : HoldsBack h.is_kept e.notes.marks

-- the client takes a step, with these messages, and what the host keeps of them waits after all others
pub record Goes (Becomes : Client → Client → List ToServer → Type 0) (h : ClientHost) (f : Endpoint) : Type 0 where
  pub before : Client
  pub now : Client
  pub list : List ToServer
  pub said : List ToServer
  pub runs : h.standing ≡ Runs before
  pub becomes : Becomes before now list
  pub among : AreAmong said list
  pub after : IsClientHost f (record h { standing = Runs now; unsent = h.unsent ++ said })

-- or nothing changes
abbrev pub GoesOrStays : (Client → Client → List ToServer → Type 0) → ClientHost → Endpoint → Type 0
GoesOrStays Becomes h f = IsClientHost f h ⊎ Goes Becomes h f

-- a call that does this to a client, and nothing to the notes, is this step of the host's client, or none
abbrev pub IsStep : (Endpoint → Endpoint → Reply → Type 0) → (Client → Client → List ToServer → Type 0) → Type 0
IsStep Does Becomes =
    (e f : Endpoint) (h : ClientHost) (r : Reply) → IsClientHost e h → Does e f r → f.notes ≡ e.notes →
    GoesOrStays Becomes h f

-- Steps

abbrev pub Reads : List ℕ → Client → Client → List ToServer → Type 0
Reads bytes k l list = (m : ToClient) × (reading.to_client_of bytes ≡ Ok m) × Follows k (client_case_of k m) l list

abbrev pub Repeats : Client → Client → List ToServer → Type 0
Repeats k l list = (l ≡ k) × IsTick k list

abbrev pub AsksFor : ℕ → ℕ → ℕ → Client → Client → List ToServer → Type 0
AsksFor point hi place k l list =
    (m : Mode) × (slice_get all_modes place ≡ Some m) × (commands.lock_refusal k point hi ≡ None)
    × (l ≡ commands.locked k point hi m) × (list ≡ commands.says_lock l point hi m ∷ [])

abbrev pub Wrote : Option WriteOp → Client → Client → List ToServer → Type 0
Wrote op k l list =
    (x : WriteOp) × (op ≡ Some x) × (commands.write_refusal k x ≡ None) × (l ≡ commands.wrote k x)
    × (list ≡ commands.says_write l x ∷ [])

abbrev pub Took : Option WriteOp → Client → Client → List ToServer → Type 0
Took op k l list =
    (x : WriteOp) × (op ≡ Some x) × (commands.seize_refusal k x ≡ None) × (l ≡ commands.seized k x)
    × (list ≡ commands.says_write l x ∷ [])

abbrev pub GaveBack : Bounds → Option Mode → Client → Client → List ToServer → Type 0
GaveBack s keep k l list =
    (m : Mode) × (keep ≡ Some m) × (commands.lower_refusal k s ≡ None) × (l ≡ commands.belief_lowered k s m)
    × (list ≡ commands.says_release k s m ∷ [])

abbrev pub Pinned : Bounds → Client → Client → List ToServer → Type 0
Pinned s k l list =
    (id : ℕ) × (commands.pin_refusal k s ≡ None) × (free_pin k ≡ Some id) × (l ≡ commands.pinned k s id)
    × (list ≡ [])

abbrev pub Unpinned : ℕ → Client → Client → List ToServer → Type 0
Unpinned id k l list =
    (commands.unpin_refusal k id ≡ None) × (l ≡ commands.unpinned k id) × (list ≡ [])

-- the client has left, or had before: its Bye waits after all others, or is lost
pub record HasGone (h : ClientHost) (f : Endpoint) : Type 0 where
  pub bye : ToServer
  pub said : List ToServer
  pub among : AreAmong said (bye ∷ [])
  pub is_bye : ((k : Client) × (h.standing ≡ Runs k) × (bye ≡ commands.says_bye k)) ⊎ (h.standing ≡ HasLeft bye)
  pub after : IsClientHost f (record h { standing = HasLeft bye; unsent = h.unsent ++ said })

-- what waits is in front of the room's old bytes, all of it, since the incarnation is kept
pub record GivesAll (h : ClientHost) (f : Endpoint) (was now : List ℕ) : Type 0 where
  pub kept : h.is_kept ≡ true
  pub bytes : now ≡ said_frames h.unsent ++ drop (length (said_frames h.unsent)) was
  pub after : IsClientHost f (record h { unsent = [] })

-- Each call on the client of a host is one of its steps, or none. Nothing leaves before its incarnation is kept.
pub record ClientCallsAreSteps : Type 0 where
  pub begins : (number incarnation : ℕ) (e : Endpoint) (r : Reply) → BeginsClosed number incarnation (Some e) r →
      IsClientHost e (record {
        standing = Runs (begun number incarnation);
        is_kept = false;
        unsent = says_hello (begun number incarnation) ∷ [];
      })
  pub hears : (bytes : List ℕ) → IsStep (OnClient (Hears bytes)) (Reads bytes)
  pub ticks : IsStep (OnClient Ticks) Repeats
  pub locks : (point hi place : ℕ) → IsStep (OnClient (Locks point hi place)) (AsksFor point hi place)
  pub writes : (op : Option WriteOp) → IsStep (OnClient (Writes op)) (Wrote op)
  pub takes : (op : Option WriteOp) → IsStep (OnClient (WritesTaking op)) (Took op)
  pub lowers : (s : Bounds) (keep : Option Mode) → IsStep (OnClient (Lowers s keep)) (GaveBack s keep)
  pub pins : (s : Bounds) → IsStep (OnClient (Pins s)) (Pinned s)
  pub unpins : (id : ℕ) → IsStep (OnClient (Unpins id)) (Unpinned id)
  pub leaves : (e f : Endpoint) (h : ClientHost) (r : Reply) → IsClientHost e h → Leaves e f r → f.notes ≡ e.notes →
      IsClientHost f h ⊎ HasGone h f
  pub keeps : (count : ℕ) (e f : Endpoint) (h : ClientHost) (r : Reply) → IsClientHost e h →
      ConfirmsNotes count e f r → IsClientHost f h ⊎ IsClientHost f (record h { is_kept = true })
  pub releases : (e f : Endpoint) (h : ClientHost) (was now : List ℕ) (r : Reply) → IsClientHost e h →
      Takes was now e f r → (IsClientHost f h × (now ≡ was)) ⊎ GivesAll h f was now
