-- Which messages have a spelling: each number has its bytes, each span is one, and each list has a count.
use Rattle.std.specs.Prelude.{ℕ, ◌<◌, ◌≤◌, ◌^◌, List, length, IfSome}
use Rattle.std.specs.List.{AllByRecursion}
use Rattle.krl_modes.specs.Spans.{Bounds}
use Rattle.krl_modes.specs.declared.point.TheConstants.{TOP}
use Rattle.krl_messages.specs.Values.{Value}
use Rattle.krl_messages.specs.Ascending.{Ascend}
use Rattle.krl_modes.specs.declared.limits.TheConstants.{MAX_HOLDINGS}
use Rattle.krl_messages.specs.declared.holding.Holding.{Holding}
use Rattle.krl_messages.specs.declared.range_pieces.RangePiece.{RangePiece}
use Rattle.krl_messages.specs.declared.key_pieces.KeyPiece.{KeyPiece}
use Rattle.krl_messages.specs.declared.pieces.Pieces.{Pieces}
use Rattle.krl_messages.specs.declared.write_op.WriteOp.TheVariants as write
use Rattle.krl_messages.specs.declared.to_server.ToServer.{ToServer}
use Rattle.krl_messages.specs.declared.to_server.ToServerBody.{ToServerBody}
use Rattle.krl_messages.specs.declared.to_server.ToServerBody.TheVariants as said
use Rattle.krl_messages.specs.declared.to_server.RequestBody.{RequestBody}
use Rattle.krl_messages.specs.declared.to_server.RequestBody.TheVariants as asked
use Rattle.krl_messages.specs.declared.to_client.ToClient.{ToClient}
use Rattle.krl_messages.specs.declared.to_client.ToClientBody.{ToClientBody}
use Rattle.krl_messages.specs.declared.to_client.ToClientBody.TheVariants as told
use Rattle.krl_messages.specs.declared.to_client.PushBody.{PushBody}
use Rattle.krl_messages.specs.declared.to_client.PushBody.TheVariants as push

abbrev pub FitsNumber : ℕ → Type 0
FitsNumber n = n < 2 ^ 64

abbrev pub FitsSpan : Bounds → Type 0
FitsSpan s = (s.lo < s.hi) × (s.hi ≤ TOP)

abbrev pub FitsValue : Value → Type 0
FitsValue v = length v ≤ 32

abbrev pub FitsHolding : Holding → Type 0
FitsHolding h = FitsSpan h.span × IfSome h.value FitsValue

abbrev pub FitsHoldings : List Holding → Type 0
FitsHoldings hs = (1 ≤ length hs) × (length hs ≤ MAX_HOLDINGS) × Ascend hs × AllByRecursion FitsHolding hs

abbrev pub FitsRange : RangePiece → Type 0
FitsRange p = FitsSpan p.span

abbrev pub FitsKey : KeyPiece → Type 0
FitsKey p = FitsNumber p.point

abbrev pub FitsList : {X : Type 0} → (X → Type 0) → List X → Type 0
FitsList Fits xs = (length xs < 2 ^ 32) × AllByRecursion Fits xs

abbrev pub FitsPieces : Pieces → Type 0
FitsPieces p = FitsList FitsRange p.ranges × FitsList FitsKey p.keys

abbrev pub FitsRequest : RequestBody → Type 0
FitsRequest (asked.Lock req point hi m) = FitsNumber req × FitsNumber point × FitsNumber hi
FitsRequest (asked.Write n (write.Insert k v) seizes) = FitsNumber n × FitsNumber k × FitsValue v
FitsRequest (asked.Write n (write.Put k v) seizes) = FitsNumber n × FitsNumber k × FitsValue v
FitsRequest (asked.Write n (write.Delete k) seizes) = FitsNumber n × FitsNumber k
FitsRequest (asked.Release s m) = FitsSpan s
FitsRequest asked.Ack = Unit {0}

abbrev pub FitsServerBody : ToServerBody → Type 0
FitsServerBody said.Hello = Unit {0}
FitsServerBody said.Bye = Unit {0}
FitsServerBody (said.Report epoch p) = FitsNumber epoch × FitsPieces p
FitsServerBody (said.Request r) = FitsNumber r.epoch × FitsNumber r.seen × FitsRequest r.body

abbrev pub FitsToServer : ToServer → Type 0
FitsToServer m = FitsNumber m.client × FitsNumber m.incarnation × FitsServerBody m.body

abbrev pub FitsPush : PushBody → Type 0
FitsPush (push.Grant req hs) = FitsNumber req × FitsHoldings hs
FitsPush (push.Absent req point) = FitsNumber req × FitsNumber point
FitsPush (push.Answer n o h) = FitsNumber n × FitsHolding h

abbrev pub FitsClientBody : ToClientBody → Type 0
FitsClientBody (told.Epoch epoch) = FitsNumber epoch
FitsClientBody (told.Push epoch n b) = FitsNumber epoch × FitsNumber n × FitsPush b
FitsClientBody (told.Callback epoch s keep) = FitsNumber epoch × FitsSpan s

abbrev pub FitsToClient : ToClient → Type 0
FitsToClient m = FitsNumber m.client × FitsNumber m.incarnation × FitsClientBody m.body

-- each list of a report has a count of four bytes: any other message of the code fits by its types
abbrev pub HasCounts : ToServerBody → Type 0
HasCounts said.Hello = Unit {0}
HasCounts said.Bye = Unit {0}
HasCounts (said.Report epoch p) = (length p.ranges < 2 ^ 32) × (length p.keys < 2 ^ 32)
HasCounts (said.Request r) = Unit {0}
