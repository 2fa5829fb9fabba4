-- The calls on a server, as what its host does in a world of hosts.
use Rattle.std.specs.Prelude.{◌≡◌, ℕ, suc, ◌+◌, ◌-◌, ◌^◌, min, ◌≤◌, ◌<◌, ◌⊎◌, List, [], ◌∷◌, ◌++◌, length, drop, map, Some, Ok}
use Rattle.krl_messages.specs.declared.to_server.ToServer.{ToServer}
use Rattle.krl_messages.specs.declared.to_client.ToClient.{ToClient}
use Rattle.krl_messages.specs.Members.{In}
use Rattle.krl_server.specs.Servers.{Server}
use Rattle.krl_server.specs.Cases.{case_of}
use Rattle.krl_server.specs.Changes.{change_of}
use Rattle.krl_server.specs.Steps.{ServerStep, nudge, start}
use Rattle.krl_server.specs.StateMeaning.{meaning}
use Rattle.krl_wire.specs.Reading as reading
use Rattle.krl_hosts.specs.Hosts.{Started, Said, Host, stepped, notes_of, AreAmong}
use Rattle.krl_embed.specs.declared.endpoint.Endpoint.{Endpoint}
use Rattle.krl_embed.specs.declared.endpoint.Role.{Role}
use Rattle.krl_embed.specs.declared.endpoint.Role.TheVariants as role
use Rattle.krl_embed.specs.declared.page.Page.{Page}
use Rattle.krl_embed.specs.declared.records.RecordRow.{RecordRow}
use Rattle.krl_embed.specs.declared.reply.Reply.{Reply}
use Rattle.krl_embed.specs.declared.rows.Row.{Row}
use Rattle.krl_embed.specs.declared.server_calls.Stepped.{Stepped}
use Rattle.krl_embed.specs.Endpoints.{IsCode, OfServer}
use Rattle.krl_embed.specs.Frames.{told_frames}
use Rattle.krl_embed.specs.Notes.{counted, ConfirmsNotes, Takes}
use Rattle.krl_durable.specs.declared.limits.Limits.{Limits}
use Rattle.krl_durable.specs.Index.{range}
use Rattle.krl_embed.specs.Opening.{parts, OpensClosed}
use Rattle.krl_embed.specs.Pages.{Fills, IsUnfilled, ShowsPage, rests_on}
use Rattle.krl_embed.specs.Replies.{code_of}
use Rattle.krl_embed.specs.Servers.{OnServer, IsUnchanged, Hears, Nudges}

abbrev pub IsServer : Role → Server → Type 0
IsServer (role.Server s) t = meaning s ≡ t
IsServer (role.Client k) t = ⊥
IsServer (role.Left bye) t = ⊥

abbrev pub messages_of : List Said → List ToClient
messages_of xs = map (λ x. x.message) xs

-- of what the server has produced, in its order, the first messages rest on no more than the first n notes, and each of
-- the rest on more; the frames of the first are so many bytes
pub record Parts (place n : ℕ) (said : List Said) : Type 0 where
  pub first : List Said
  pub rest : List Said
  pub whole : said ≡ first ++ rest
  pub place_is : place ≡ length (told_frames (messages_of first))
  pub early : (x : Said) → In x first → x.after ≤ n
  pub late : (x : Said) → In x rest → n < x.after

-- the marks divide these messages so: the first at n notes, each further one at a note more. None of it rests on more
abbrev pub AreMarks : List ℕ → ℕ → List Said → Type 0
AreMarks [] n said = (x : Said) → In x said → x.after ≤ n
AreMarks (mark ∷ marks) n said = Parts mark n said × AreMarks marks (suc n) said

-- the handle keeps this host's server, what that has produced and the host has not sent, and how much is kept
pub record IsHost (e : Endpoint) (h : Host) : Type 0 where
  pub server : IsServer e.role h.memory
  pub outgoing : e.outgoing ≡ told_frames (messages_of h.unsent)
  pub confirmed : e.notes.confirmed ≡ h.kept
  pub unconfirmed : length e.notes.marks ≡ length h.unkept
  pub marks : AreMarks e.notes.marks h.kept h.unsent

-- the server read the message of these bytes, and what it changed and produced waits
abbrev pub Judged : List ℕ → Host → Endpoint → Type 0
Judged bytes h f = (m : ToServer) × (t : Server) × (outs : List ToClient) × (said : List ToClient)
    × (reading.to_server_of bytes ≡ Ok m) × ServerStep h.memory m t outs × AreAmong said outs
    × IsHost f (stepped h t (notes_of (change_of m (case_of h.memory m))) said)

-- the frames of these messages are in front of the room's old bytes
abbrev pub IsGiven : List Said → List ℕ → List ℕ → Type 0
IsGiven given was now = let frames = told_frames (messages_of given) in now ≡ frames ++ drop (length frames) was

-- given is what rests on notes that are kept, and only that: the first of what was produced. The rest waits
pub record Gives (h : Host) (f : Endpoint) (was now : List ℕ) : Type 0 where
  pub given : List Said
  pub rest : List Said
  pub whole : h.unsent ≡ given ++ rest
  pub may_leave : (x : Said) → In x given → x.after ≤ h.kept
  pub has_to_wait : (x : Said) → In x rest → h.kept < x.after
  pub bytes : IsGiven given was now
  pub after : IsHost f (record h { unsent = rest })

-- the entries of the host's server in a range, as many as there is room for; they rest on all notes, kept or not
pub record Reads (lo hi : ℕ) (was now : List Row) (h : Host) (r : Page) : Type 0 where
  pub rows : Fills (range h.memory.durable.index lo hi) hi was now (r.reply.detail, r.next)
  pub after : r.after ≡ min (h.kept + length h.unkept) (2 ^ 64 - 1)

-- Each call on the server of a host is one of its moves, or none.
pub record CallsAreMoves : Type 0 where
  pub starts : (l : Limits) (epoch : ℕ) (entries : List Row) (records : List RecordRow) (e : Endpoint) (r : Reply) →
      OpensClosed l epoch entries records (Some e) r →
      let memory = start (parts l epoch entries records) in
      IsHost e (record { memory = memory; kept = 0; unkept = Started l ∷ []; unsent = [] })
  pub judges : (bytes : List ℕ) (e f : Endpoint) (h : Host) (r : Stepped) → IsHost e h →
      OnServer IsUnchanged (Hears bytes) e f r → f.notes ≡ counted (length e.outgoing) r.change e.notes →
      IsHost f h ⊎ Judged bytes h f
  pub nudges : (c : ℕ) (e f : Endpoint) (h : Host) (r : Reply) → IsHost e h →
      OnServer IsCode (Nudges c) e f r → f.notes ≡ e.notes →
      (said : List ToClient) × AreAmong said (nudge h.memory c) × IsHost f (stepped h h.memory [] said)
  pub keeps : (count : ℕ) (e f : Endpoint) (h : Host) (r : Reply) → IsHost e h → ConfirmsNotes count e f r →
      (n : ℕ) × (n ≤ length h.unkept) × IsHost f (record h { kept = h.kept + n; unkept = drop n h.unkept })
  pub releases : (e f : Endpoint) (h : Host) (was now : List ℕ) (r : Reply) → IsHost e h → Takes was now e f r →
      (IsHost f h × (now ≡ was)) ⊎ Gives h f was now
  pub reads : (lo hi : ℕ) (e : Endpoint) (h : Host) (was now : List Row) (r : Page) → IsHost e h →
      OfServer (IsUnfilled was now) (ShowsPage lo hi was now) e.role r →
      r.after ≡ rests_on e.notes (code_of r.reply) → Reads lo hi was now h r
