-- A scan at a node is a step of each world that has the client so, and leaves it as it is.
use Rattle.krl_nodes.proofs.Names.{◌≡◌, ℕ, ◌≤◌, List, Some, None, refl, ap, ◌∙◌, Ok, Err, Value, Refused, State, ClientPlace, client_of, index_of, Steps, span, if_runs, named, command_refusal, takes}
use Rattle.krl_nodes.proofs.Names.{is_client, ClientAt, ReachableFrom, Agreeable, SeatedClient, client_shown, RowsAre, ScansIndex}
use Rattle.krl_durable.specs.Index.{range}
use Rattle.krl_client.specs.Clients.{Client}
use Rattle.krl_client.specs.Commands.{ScanGives, scan_refusal}
use Rattle.krl_client.specs.declared.scan_answer.ScanAnswer.{ScanAnswer}
use Rattle.krl_client.specs.declared.scan_answer.ScanAnswer.TheVariants as scanned
use Rattle.krl_steps.specs.declared.answer.Answer.TheVariants as told
use Rattle.krl_steps.specs.declared.step.Step.TheVariants as step
use Rattle.krl_steps.specs.declared.step.Command.TheVariants as command
use Rattle.krl_steps.specs.Refusals.{refused_by_client}
use Rattle.krl_world.proofs.Reaching.{by_run}
use Rattle.krl_world.proofs.Functions.Runs.{scans_before}

-- rows that a client finds are those of the index, in each world that has it so
rows_are : (w : State) (opening rows : List (ℕ × Value)) (c lo hi : ℕ) (k : Client) → c ≤ 63 → ReachableFrom opening w → client_of w c ≡ Some k → scan_refusal (span lo hi) ≡ None → ScanGives k (span lo hi) (scanned.Rows rows) → rows ≡ range (index_of w) lo hi
rows_are w opening rows c lo hi k low reach up due found =
    let none = is_client c _ low ∙ ap (λ o. if_runs o (λ x. named refused_by_client (command_refusal x (command.Scan lo hi)))) up ∙ ap (named refused_by_client) due in
    let taken : Steps w (step.Command c (command.Scan lo hi)) (Ok (told.Rows rows)) w = takes w w (step.Command c (command.Scan lo hi)) (told.Rows rows) none (k, up, (found, refl)) in
    scans_before w w (step.Command c (command.Scan lo hi)) (Ok (told.Rows rows)) (by_run w reach.0) taken c lo hi rows refl refl

answer_is : (w : State) (opening : List (ℕ × Value)) (c lo hi : ℕ) (k : Client) (a : ScanAnswer) → c ≤ 63 → ReachableFrom opening w → client_of w c ≡ Some k → scan_refusal (span lo hi) ≡ None → ScanGives k (span lo hi) a → RowsAre (range (index_of w) lo hi) (Ok a)
answer_is w opening c lo hi k (scanned.Rows rows) low reach up due found = rows_are w opening rows c lo hi k low reach up due found
answer_is w opening c lo hi k (scanned.Miss p) low reach up due found = tt
answer_is w opening c lo hi k (scanned.Pending n) low reach up due found = tt

pub scans_there : (n : SeatedClient) (lo hi : ℕ) (k : Client) (a : ScanAnswer) → n.number ≤ 63 → Agreeable n.opening (ClientAt n.number (client_shown n)) → (client_shown n).client ≡ Some k → scan_refusal (span lo hi) ≡ None → ScanGives k (span lo hi) a → ScansIndex n lo hi (Ok a)
scans_there n lo hi k a low stands up due found = record {
  stands = stands;
  rows = λ w reach agrees. answer_is w n.opening n.number lo hi k a low reach (ap (λ (x : ClientPlace). x.client) agrees ∙ up) due found;
}

pub scans_not : (n : SeatedClient) (lo hi : ℕ) (e : Refused) → Agreeable n.opening (ClientAt n.number (client_shown n)) → ScansIndex n lo hi (Err e)
scans_not n lo hi e stands = record { stands = stands; rows = λ w reach agrees. tt }
