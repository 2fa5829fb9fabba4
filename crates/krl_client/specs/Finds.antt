-- What a client answers to a look into its cache, as a scan would report it.
use Rattle.krl_client.specs.declared.find_answer.FindAnswer.{FindAnswer}
use Rattle.krl_client.specs.declared.find_answer.FindAnswer.TheVariants as find
use Rattle.krl_client.specs.declared.scan_answer.ScanAnswer.{ScanAnswer}
use Rattle.krl_client.specs.declared.scan_answer.ScanAnswer.TheVariants as scan_answer

abbrev pub answer_of : FindAnswer → ScanAnswer
answer_of (find.Rows rows) = scan_answer.Rows rows
answer_of (find.Miss p) = scan_answer.Miss p
answer_of (find.Pending key) = scan_answer.Pending key
