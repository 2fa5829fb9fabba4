-- A Hello and a Bye of a greater incarnation are those of a client that starts and leaves at once.
use Rattle.std.proofs.Common.{◌≡◌, ℕ, ◌≤◌, ◌<◌, ◌∙◌, Some, None, [], ◌∷◌, inl, refl, ap}
use Rattle.krl_modes.specs.declared.limits.TheConstants.{MAX_CLIENTS}
use Rattle.krl_modes.specs.declared.point.TheConstants.{END}
use Rattle.krl_messages.specs.Members.{In}
use Rattle.krl_messages.proofs.Members.{in_left, in_right}
use Rattle.krl_client.specs.Clients.{begun}
use Rattle.krl_client.specs.Commands.{says_bye}
use Rattle.krl_client.specs.Ticks.{says_hello}
use Rattle.krl_steps.specs.Refusals.{refused_by_client}
use Rattle.krl_steps.specs.declared.step.Step.TheVariants as step
use Rattle.krl_steps.specs.declared.step.Command.TheVariants as command
use Rattle.krl_steps.specs.declared.answer.Answer.TheVariants as answered
use Rattle.krl_world.specs.declared.message.Message.TheVariants as message
use Rattle.krl_world.specs.States.{ClientPlace, State, client_of, with_client, seated, from_clients}
use Rattle.krl_world.specs.Steps.{Takes, of_client, if_runs, named, command_refusal}
use Rattle.krl_host_laws.specs.Hosts.{HostWorld, Moves, acts, begins, moved}
use Rattle.krl_host_laws.specs.Evictions.{EvictionsAreMoves}
use Rattle.krl_host_laws.proofs.Incarnations.{at_set, in_range, running}

-- two moves lead to where a Hello and a Bye of incarnation n have left the client, and nothing else is new
pub record LeavesAtOnce (w : HostWorld) (c n : ℕ) : Type 0 where
  pub mid : HostWorld
  pub after : HostWorld
  pub first : Moves w mid
  pub second : Moves mid after
  pub host : after.host ≡ w.host
  pub server : after.world.server ≡ w.world.server
  pub gone : client_of after.world c ≡ None
  pub hello : In (message.ToServer (says_hello (begun c n))) after.world.sent
  pub bye : In (message.ToServer (says_bye (begun c n))) after.world.sent

module _ (w : HostWorld) (c n : ℕ) (in_number : c < MAX_CLIENTS) (off : client_of w.world c ≡ None) (less : (w.world.places c).last_incarnation < n) (le : n ≤ END) where
  abbrev started : State
  started = seated w.world c (running c n) (says_hello (begun c n) ∷ [])

  abbrev left : State
  left = with_client started c None (says_bye (begun c n) ∷ [])

  runs : client_of started c ≡ Some (begun c n)
  runs = ap (λ (p : ClientPlace). p.client) (at_set w.world.places c (running c n))

  leaves : Takes started (step.Command c command.Leave) answered.Done left
  leaves = (
    ap (λ o. of_client c (if_runs o (λ k. named refused_by_client (command_refusal k command.Leave)))) runs ∙ in_range c in_number,
    (begun c n, runs, (refl, refl)),
  )

  pub leaves_at_once : LeavesAtOnce w c n
  leaves_at_once = record {
    mid = record w { world = started };
    after = record w { world = left };
    first = begins c n in_number off less le;
    second = acts (step.Command c command.Leave) answered.Done left (λ e. cc) leaves;
    host = refl;
    server = refl;
    gone = ap (λ (p : ClientPlace). p.client) (at_set started.places c (record { last_incarnation = (started.places c).last_incarnation; client = None }));
    hello = in_left started.sent (from_clients (says_bye (begun c n) ∷ [])) (message.ToServer (says_hello (begun c n))) (in_right w.world.sent (from_clients (says_hello (begun c n) ∷ [])) (message.ToServer (says_hello (begun c n))) (inl refl));
    bye = in_right started.sent (from_clients (says_bye (begun c n) ∷ [])) (message.ToServer (says_bye (begun c n))) (inl refl);
  }

pub evictions_are_moves : EvictionsAreMoves
evictions_are_moves w c n r lt off less le =
    let x = leaves_at_once w c n lt off less le in
    record {
      after = x.after;
      reached = moved x.mid x.after (moved w x.mid r x.first) x.second;
      host = x.host;
      server = x.server;
      gone = x.gone;
      hello = x.hello;
      bye = x.bye;
    }
