-- The names that most proofs of this crate cite, passed on from one place. Declares nothing.
pub use Rattle.std.proofs.Common.{arith, eqb-true, Some, ap, ◌<◌, ◌∙◌, get_or, ⊎_elim, List, refl, ◌+◌, ◌++◌, replicate, zero, ◌≢◌, cond, inr, ◌⊎◌, [], subst, length, eq-eqb, ◌∷◌, None, Bool, ne_eqb}
pub use Rattle.std.proofs.Common.{Option, ltb-false, set, inl, ◌≡◌, nat_eq, eqb, ℕ, ◌≤◌, true, sym, suc, nat_lt, false}
pub use Rattle.std.proofs.lemmas.List.{length-append, append_assoc, append-nil}
pub use Rattle.std.specs.Prelude.{slice_index_or, OnErr, Err, Ok, slice_index, remove, IfErr, slice_get, OnOk, slice_set, Result}
pub use lib.ListN.{get_elem?}
pub use mathlib.Core.Logic.{dite}
pub use mathlib.Core.Option.{some-ne-none, some-injective}
pub use native.Mathlib.Decide.{ℕ_discrete}
pub use Rattle.atomic_table.proofs.Lists.{set_else, at_set, set_again, at_snoc, at_longer}
pub use Rattle.atomic_table.specs.Table.{Allows, opening, gives, Me, Splits, Joins}
pub use Rattle.krl_messages.specs.Values.{Value}
pub use Rattle.krl_messages.specs.declared.to_client.ToClient.{ToClient}
pub use Rattle.krl_messages.specs.declared.to_server.ToServer.{ToServer}
pub use Rattle.krl_nodes.specs.Letters.{mail_of, by_server, letters_to, from_client, waiting_for, IsPicked, sorted, with_said, left_by, position_of, with_to_client, with_sent, IsReader, with_to_server}
pub use Rattle.krl_nodes.specs.Letters.{only_to}
pub use Rattle.krl_nodes.specs.Mail.{Mail}
pub use Rattle.krl_nodes.specs.Nodes.{ScansIndex, NoneSeated, client_shown, IsAt, HoldsPost, RowsAre, Changes, SeatedClient, Exchanged}
pub use Rattle.krl_nodes.specs.Rule.{Sits, AllAway, Running, AtHome, Each, Holds, Seated, IsServer, IsOut, AllSent, NamesAs, HasView, Names, IsClient, Agrees, ReachableFrom, Kept, StandsIn, down_at}
pub use Rattle.krl_nodes.specs.Shown.{ClientAt, Gone, ServerAt, shown, Shown, Nobody}
pub use Rattle.krl_nodes.specs.Sorting.{is_for, HasTaken, AreSortedBack, HasRead, HasNone, HasHeard, IsPut, HasOne}
pub use Rattle.krl_nodes.specs.Steps.{given_view, holding, blank_of, IsBlank, GetsUp, first_view, Agreeable, HasNoMore, IsLive, Acts, Change, ClientMoves, Rests, gave, Event, IsNewPost, IsMove}
pub use Rattle.krl_nodes.specs.Steps.{ServerMoves, MayGive, exchange_of, Found, SitsDown, HasChair, Took, took, joined_view, view_of, spent_view}
pub use Rattle.krl_nodes.specs.Turns.{did_of, ServerReads, done_if, ClientActsBy, Ticks, ClientDoes, ClientTakes, Starts, ServerActsBy, ServerActs, ServerLets, ClientLets, Nudges, ServerTakes}
pub use Rattle.krl_nodes.specs.Turns.{Crashes, ClientStarts, server_due, IsSame, ServerDoes, Picks, ServerAsks, ClientActs, ClientAsks, HasTicked, ClientCrashes, client_due, ClientReads}
pub use Rattle.krl_nodes.specs.declared.policy.Pick.{Pick}
pub use Rattle.krl_nodes.specs.declared.policy.Pick.TheVariants.{Take, Lose, Copy}
pub use Rattle.krl_nodes.specs.declared.post.Chair.{Chair}
pub use Rattle.krl_nodes.specs.declared.view.Node.TheVariants.{Blank, Client, Server}
pub use Rattle.krl_nodes.specs.declared.view.View.{View}
pub use Rattle.krl_server.specs.StateMeaning.{meaning}
pub use Rattle.krl_steps.specs.declared.answer.Answer.{Answer}
pub use Rattle.krl_steps.specs.declared.refused.Refused.{Refused}
pub use Rattle.krl_steps.specs.declared.step.Command.{Command}
pub use Rattle.krl_world.proofs.Functions.Lifts.{takes, place_other, is_client, place_here}
pub use Rattle.krl_world.specs.Fields.{node_of, client_there, place_of}
pub use Rattle.krl_world.specs.PlaceSteps.{IsRefused, starting_refusal, Ticked, Does, CommandedAt, Started}
pub use Rattle.krl_world.specs.States.{from_clients, unused, Down, ServerPlace, fresh, State, from_server, set_place, index_of, durable_of, Up, client_of, ClientPlace}
unfoldable pub use Rattle.krl_world.specs.States.{opened}
pub use Rattle.krl_world.specs.Steps.{applies, server_start, Takes, server_down, command_refusal, span, if_runs, crashed, of_client, started, CommandNeedsMemory, CanOpen, named}
unfoldable pub use Rattle.krl_world.specs.Steps.{Steps}
pub use Rattle.krl_world.specs.declared.message.Message.{Message}
