-- What each client keeps, from call to call: numbers within their ranges, spans that are spans, and
-- a belief.
use Rattle.std.specs.Prelude.{◌≡◌, ℕ, ◌≤◌, ◌<◌, true, Some, None}
use Rattle.std.specs.List.{AllByRecursion}
use Rattle.krl_modes.specs.declared.point.TheConstants.{END}
use Rattle.krl_modes.specs.declared.mode.Mode.{Mode}
use Rattle.krl_modes.specs.Spans.{Bounds}
use Rattle.krl_modes.specs.declared.limits.TheConstants.{MAX_CLIENTS, MAX_PINS}
use Rattle.krl_messages.specs.declared.write_op.WriteOp.{WriteOp}
use Rattle.krl_messages.specs.declared.to_client.ToClient.{ToClient}
use Rattle.krl_messages.specs.declared.to_client.ToClientBody.{ToClientBody}
use Rattle.krl_messages.specs.declared.to_client.ToClientBody.TheVariants as told
use Rattle.krl_messages.specs.declared.to_client.PushBody.{PushBody}
use Rattle.krl_messages.specs.declared.to_client.PushBody.TheVariants as push
use Rattle.krl_messages.specs.Writes.{op_key}
use Rattle.krl_cache.specs.Laws.{IsBelief}
use Rattle.krl_cache.specs.Beliefs.{is_span}
use Rattle.krl_client.specs.Clients.{Client, Waiting, outstanding, free_pin, begun}
use Rattle.krl_client.specs.Commands.{start_refusal, lock_refusal, locked, write_refusal, wrote, seize_refusal, seized, belief_lowered, pin_refusal, pinned, unpinned}
use Rattle.krl_client.specs.Messages.{client_case_of, after}

-- a write of this number, and the key is one
pub record IsWrite (number : ℕ) (change : WriteOp) : Type 0 where
  pub counted : 1 ≤ number
  pub key : op_key change < END

-- a lock request of this number, from a point on below another
pub record IsRequest (number point hi : ℕ) : Type 0 where
  pub counted : 1 ≤ number
  pub at : point ≤ END
  pub reach : is_span (record { lo = point; hi = hi }) ≡ true

-- the id is one, and the pin is a span
pub record IsPin (id : ℕ) (s : Bounds) : Type 0 where
  pub below : id < MAX_PINS
  pub span : is_span s ≡ true

pub record IsClient (k : Client) : Type 0 where
  pub number : k.number < MAX_CLIENTS
  pub incarnation : k.incarnation ≤ END
  pub seen : k.seen ≤ END
  pub req : k.req ≤ END
  pub writes : k.writes ≤ END
  pub asked : (point hi : ℕ) (mode : Mode) → k.asked ≡ Waiting point hi mode → IsRequest k.req point hi
  pub written : (change : WriteOp) → outstanding k.written ≡ Some change → IsWrite k.writes change
  pub pins : (id : ℕ) (s : Bounds) → k.pins id ≡ Some s → IsPin id s
  pub belief : IsBelief k.belief

-- each holding of a push lies on a span
abbrev pub LiesOnSpan : PushBody → Type 0
LiesOnSpan (push.Grant req hs) = AllByRecursion (λ h. is_span h.span ≡ true) hs
LiesOnSpan (push.Absent req point) = Unit {0}
LiesOnSpan (push.Answer number outcome h) = is_span h.span ≡ true

abbrev pub BringsSpan : ToClientBody → Type 0
BringsSpan (told.Epoch epoch) = Unit {0}
BringsSpan (told.Push epoch number what) = LiesOnSpan what
BringsSpan (told.Callback epoch s keep) = Unit {0}

-- each call that isn't refused leaves a client, and so does each message, also one that nobody sent
pub record ClientKeeps : Type 0 where
  pub start :
      (c incarnation : ℕ) → start_refusal c incarnation ≡ None → IsClient (begun c incarnation)
  pub lock :
      (k : Client) (point hi : ℕ) (mode : Mode) → lock_refusal k point hi ≡ None
      → IsClient k → IsClient (locked k point hi mode)
  pub write :
      (k : Client) (change : WriteOp) → write_refusal k change ≡ None
      → IsClient k → IsClient (wrote k change)
  pub seize :
      (k : Client) (change : WriteOp) → seize_refusal k change ≡ None
      → IsClient k → IsClient (seized k change)
  pub lower :
      (k : Client) (s : Bounds) (keep : Mode) → IsClient k → IsClient (belief_lowered k s keep)
  pub pin :
      (k : Client) (s : Bounds) (id : ℕ) → pin_refusal k s ≡ None → free_pin k ≡ Some id
      → IsClient k → IsClient (pinned k s id)
  pub unpin : (k : Client) (id : ℕ) → IsClient k → IsClient (unpinned k id)
  pub message :
      (k : Client) (m : ToClient) → BringsSpan m.body
      → IsClient k → IsClient (after k (client_case_of k m))
