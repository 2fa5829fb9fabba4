-- What the second client of a run reads.
use Rattle.std.proofs.Common.{◌≡◌, ℕ, List, subst}
use Rattle.std.specs.Prelude.{Ok}
use Rattle.krl_messages.specs.Values.{Value}
use Rattle.krl_nodes.specs.Nodes.{SeatedClient, ScansIndex}
use Rattle.krl_client.specs.declared.scan_answer.ScanAnswer.{ScanAnswer}
use Rattle.krl_client.specs.declared.scan_answer.ScanAnswer.TheVariants as scanned
use Rattle.krl_nodes_demo.specs.RunRows.{HasKey, IsFound}

pub is_found : (n : SeatedClient) (a : ScanAnswer) (rows : List (ℕ × Value)) → a ≡ scanned.Rows rows → ScansIndex n 11 21 (Ok a) → HasKey 15 rows → IsFound n.opening rows
is_found n a rows e t key =
    let s = subst (λ (x : ScanAnswer). ScansIndex n 11 21 (Ok x)) e t in
    record { found = key; world = s.stands.0; reached = s.stands.1; rows_are = s.rows s.stands.0 s.stands.1 s.stands.2 }
