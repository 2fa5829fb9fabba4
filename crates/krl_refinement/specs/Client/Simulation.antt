-- Whatever a client does is some steps of its link.
use Rattle.std.specs.Prelude.{◌≡◌, ℕ, suc, Option, Some, None, List, [], ◌∷◌}
use Rattle.krl_modes.specs.declared.mode.Mode.{Mode}
use Rattle.krl_modes.specs.Spans.{Bounds}
use Rattle.krl_messages.specs.declared.write_op.WriteOp.{WriteOp}
use Rattle.krl_messages.specs.declared.pieces.Pieces.{Pieces}
use Rattle.krl_messages.specs.declared.to_client.ToClient.{ToClient}
use Rattle.krl_messages.specs.declared.to_server.ToServer.{ToServer}
use Rattle.krl_machine.specs.Links.{Link, Shared}
use Rattle.krl_cache.specs.Kept.{Describes}
use Rattle.krl_client.specs.Clients.{Client, begun}
use Rattle.krl_client.specs.Commands.{lock_refusal, locked, says_lock, write_refusal, wrote, seize_refusal, seized, says_write, lower_refusal, belief_lowered, says_release, pinned, unpinned, says_bye}
use Rattle.krl_client.specs.Messages.{client_case_of, after, sends}
use Rattle.krl_client.specs.Ticks.{tick, says_hello}
use Rattle.krl_refinement.specs.Client.Shows.{IsTo, ShowsPlace, Leads}

-- a client that runs, and shows in the link, leaves this and sends these
abbrev pub Shown : Client → Option Client → List ToServer → Type 0
Shown k after ms = (s : Shared) (l : Link) (c g : ℕ) → ShowsPlace c g (Some k) l → Leads s l c g after ms

-- a client starts
abbrev pub StartShows : Type 0
StartShows =
    (s : Shared) (l : Link) (c g : ℕ) → ShowsPlace c g None l →
    Leads s l c (suc g) (Some (begun c (suc g))) (says_hello (begun c (suc g)) ∷ [])

-- it crashes
abbrev pub CrashShows : Type 0
CrashShows = (k : Client) → Shown k None []

-- it obeys a command that it doesn't refuse
pub record CommandsShow : Type 0 where
  pub lock : (k : Client) (point hi : ℕ) (mode : Mode) → lock_refusal k point hi ≡ None →
      Shown k (Some (locked k point hi mode)) (says_lock (locked k point hi mode) point hi mode ∷ [])
  pub write : (k : Client) (change : WriteOp) → write_refusal k change ≡ None →
      Shown k (Some (wrote k change)) (says_write (wrote k change) change ∷ [])
  pub seize : (k : Client) (change : WriteOp) → seize_refusal k change ≡ None →
      Shown k (Some (seized k change)) (says_write (seized k change) change ∷ [])
  pub scan : (k : Client) → Shown k (Some k) []
  pub lower : (k : Client) (span : Bounds) (keep : Mode) → lower_refusal k span ≡ None →
      Shown k (Some (belief_lowered k span keep)) (says_release k span keep ∷ [])
  pub pin : (k : Client) (span : Bounds) (id : ℕ) → Shown k (Some (pinned k span id)) []
  pub unpin : (k : Client) (id : ℕ) → Shown k (Some (unpinned k id)) []
  pub leave : (k : Client) → Shown k None (says_bye k ∷ [])

-- a tick
abbrev pub TicksShow : Type 0
TicksShow = (k : Client) (ps : Pieces) → Describes ps k.belief → Shown k (Some k) (tick ps k)

-- a message of the client's number that stands in the link
abbrev pub MessagesShow : Type 0
MessagesShow =
    (k : Client) (ps : Pieces) (m : ToClient) → Describes ps k.belief → (s : Shared) (l : Link) (c g : ℕ) →
    ShowsPlace c g (Some k) l → (m.client ≡ c → IsTo l m.incarnation m.body) →
    Leads s l c g (Some (after k (client_case_of k m))) (sends ps k (client_case_of k m))
