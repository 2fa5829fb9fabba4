use Rattle.std.proofs.Common.{◌≡◌, take}
use Rattle.krl_durable.proofs.register.Register.from_records.Given as goal

abbrev pub invariant-loop-c : goal.invariant-loop-c
invariant-loop-c l = l.register ≡ take l.c-index l.records
