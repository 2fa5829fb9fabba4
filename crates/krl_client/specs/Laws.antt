-- What holds of each call of a client.
use Rattle.std.specs.Prelude.{◌≡◌, ℕ, suc, ◌≤◌, true, false, length, None, ◌⊎◌}
use Rattle.krl_modes.specs.declared.mode.Mode.{Mode}
use Rattle.krl_modes.specs.Parts.{range_at_most, key_at_most}
use Rattle.krl_modes.specs.Spans.{Bounds}
use Rattle.krl_messages.specs.declared.pieces.Pieces.{Pieces}
use Rattle.krl_messages.specs.declared.to_client.ToClient.{ToClient}
use Rattle.krl_messages.specs.declared.to_client.ToClientBody.TheVariants as told
use Rattle.krl_messages.specs.declared.to_client.PushBody.{PushBody}
use Rattle.krl_cache.specs.Beliefs.{Belief}
use Rattle.krl_client.specs.Clients.{Client, is_writing_in, meets_pin}
use Rattle.krl_client.specs.Commands.{lower_refusal, belief_lowered}
use Rattle.krl_client.specs.Messages.{ClientCase, Accepts, Lowers, client_case_of, after, sends}
use Rattle.krl_client.specs.Ticks.{tick}

-- the second belief is at most the first at each point
abbrev pub IsNoMore : Belief → Belief → Type 0
IsNoMore b c =
    (p : ℕ)
    → (range_at_most (c.range_at p) (b.range_at p) ≡ true)
    × (key_at_most (c.key_at p) (b.key_at p) ≡ true)

-- the message is the client's next push in its own epoch, and carries this
abbrev pub IsNextPush : Client → ToClient → PushBody → Type 0
IsNextPush k m what =
    (m.client ≡ k.number) × (m.incarnation ≡ k.incarnation)
    × (m.body ≡ told.Push k.epoch (suc k.seen) what)

-- belief rises only by an accepted push, which is the next of the client's own epoch
pub record RisesByPushes : Type 0 where
  pub message :
      (k : Client) (m : ToClient)
      → ((what : PushBody) × (client_case_of k m ≡ Accepts what) × IsNextPush k m what)
      ⊎ IsNoMore k.belief (after k (client_case_of k m)).belief
  pub lower :
      (k : Client) (s : Bounds) (keep : Mode) → IsNoMore k.belief (belief_lowered k s keep).belief

-- no callback and no command lowers a span that has the outstanding write's key in it, or meets a
-- pin, whatever mode is kept
pub record KeepsWhatItNeeds : Type 0 where
  pub callback :
      (k : Client) (m : ToClient) (s : Bounds) (keep : Mode) → client_case_of k m ≡ Lowers s keep
      → (is_writing_in k s ≡ false) × (meets_pin k s ≡ false)
  pub lower :
      (k : Client) (s : Bounds) → lower_refusal k s ≡ None
      → (is_writing_in k s ≡ false) × (meets_pin k s ≡ false)

-- no call gives more than three messages
pub record GivesFew : Type 0 where
  pub message : (ps : Pieces) (k : Client) (x : ClientCase) → length (sends ps k x) ≤ 3
  pub tick : (ps : Pieces) (k : Client) → length (tick ps k) ≤ 3
