-- What a random run draws: which step comes next, by the words of its generator.
use Rattle.std.specs.Prelude.{ℕ, zero, suc, List, [], ◌∷◌, ◌+◌, ◌%◌, Bool, nat_eq, nat_lt, if◌then◌else◌, get_or, Option, None, Some}
use Rattle.rand_core.specs.Pcg32Seed.{pcg32_seed}
use Rattle.rand_pcg.specs.Lcg.{Lcg}
use Rattle.rand_pcg.specs.Pcg.{pcg32, pcg32_of_seed}
use Rattle.krl_modes.specs.Names.{all_modes}
use Rattle.krl_modes.specs.declared.mode.Mode.{Mode}
use Rattle.krl_modes.specs.declared.mode.Mode.TheVariants as mode
use Rattle.krl_messages.specs.Values.{Value}
use Rattle.krl_messages.specs.declared.write_op.WriteOp.{WriteOp}
use Rattle.krl_messages.specs.declared.write_op.WriteOp.TheVariants as write
use Rattle.krl_steps.specs.declared.step.Step.{Step}
use Rattle.krl_steps.specs.declared.step.Step.TheVariants as step
use Rattle.krl_steps.specs.declared.step.Command.{Command}
use Rattle.krl_steps.specs.declared.step.Command.TheVariants as command
use Rattle.krl_draws.specs.declared.generator.Observed.{Observed}
use Rattle.krl_draws.specs.declared.generator.Writes.{Writes}
use Rattle.krl_draws.specs.declared.generator.Writes.TheVariants as writes

-- what is drawn, and the generator after it
abbrev pub Draw : Type 0 → Type 0
Draw A = Lcg → A × Lcg

-- draw, and continue by what was drawn
infixl 10 ◌>>=◌
abbrev pub ◌>>=◌ : {A B : Type 0} → Draw A → (A → Draw B) → Draw B
d >>= f = λ g. f (d g).0 (d g).1

-- this, and nothing is drawn
abbrev pub always : {A : Type 0} → A → Draw A
always x = λ g. (x, g)

-- the generator of a seed
abbrev pub generator_of : ℕ → Lcg
generator_of seed = pcg32_of_seed (pcg32_seed 16 seed)

-- a number below n: the next word modulo n
unfoldable pub below : ℕ → Draw ℕ
below n = λ g. ((pcg32 g).0 % n, (pcg32 g).1)

-- what arguments are drawn from
abbrev pub client : Draw ℕ
client = below 4

abbrev pub point : Draw ℕ
point = below 32

-- so many bytes
abbrev pub bytes : ℕ → Draw (List ℕ)
bytes zero = always []
bytes (suc n) = below 256 >>= λ b. bytes n >>= λ rest. always (b ∷ rest)

-- a value of 0 to 32 bytes
abbrev pub value : Draw Value
value = below 33 >>= bytes

-- a mode, by its place in the tables
abbrev pub a_mode : Draw Mode
a_mode = below 13 >>= λ n. always (get_or all_modes n mode.N)

-- a span of one to eight points
abbrev pub span : Draw (ℕ × ℕ)
span = point >>= λ lo. below 8 >>= λ more. always (lo, lo + 1 + more)

-- a client, and then its command
abbrev pub of_client : Draw Command → Draw Step
of_client d = client >>= λ c. d >>= λ what. always (step.Command c what)

abbrev pub lock : Draw Step
lock = of_client (point >>= λ p. a_mode >>= λ m. below 8 >>= λ more. always (command.Lock p (p + 1 + more) m))

-- a client asks for the change; where writes may take, every other time for the lock that it needs too
abbrev pub written : Writes → WriteOp → Draw Command
written writes.Plain op = always (command.Write op)
written writes.Taking op = below 2 >>= λ n. always (if nat_eq n 0 then command.Seize op else command.Write op)

abbrev pub insert : Writes → Draw Step
insert what = of_client (point >>= λ k. value >>= λ v. written what (write.Insert k v))

abbrev pub put : Writes → Draw Step
put what = of_client (point >>= λ k. value >>= λ v. written what (write.Put k v))

abbrev pub delete : Writes → Draw Step
delete what = of_client (point >>= λ k. written what (write.Delete k))

abbrev pub scan : Draw Step
scan = of_client (span >>= λ s. always (command.Scan s.0 s.1))

abbrev pub forget : Draw Step
forget = of_client (span >>= λ s. always (command.Lower s.0 s.1 mode.N))

-- the oldest message that was never delivered; if there is none, a client ticks
abbrev pub oldest : Option ℕ → Draw Step
oldest None = client >>= λ c. always (step.Tick c)
oldest (Some number) = always (step.Deliver number)

-- any message, if any was sent
abbrev pub any : ℕ → Draw (Option Step)
any sent = if nat_eq sent 0 then always None else (below sent >>= λ n. always (Some (step.Deliver (1 + n))))

-- a client crashes once in eight times, and ticks otherwise
abbrev pub crash : Draw Step
crash =
    client >>= λ c. below 8 >>= λ n. always (if nat_eq n 0 then step.CrashClient c else step.Tick c)

-- a server that is down starts; one that runs crashes once in eight times
abbrev pub server : Bool → Draw (Option Step)
server is_down =
    if is_down then always (Some step.StartServer)
    else (below 8 >>= λ n. always (if nat_eq n 0 then Some step.CrashServer else None))

abbrev pub some : Draw Step → Draw (Option Step)
some d = d >>= λ what. always (Some what)

-- the step of a kind, of which there are twenty
unfoldable pub of_kind : Observed → Writes → ℕ → Draw (Option Step)
of_kind seen what kind =
    if nat_lt kind 6 then some (oldest seen.waiting)
    else (if nat_lt kind 8 then any seen.sent
    else (if nat_lt kind 10 then some lock
    else (if nat_eq kind 10 then some (insert what)
    else (if nat_eq kind 11 then some (put what)
    else (if nat_eq kind 12 then some (delete what)
    else (if nat_eq kind 13 then some scan
    else (if nat_eq kind 14 then some forget
    else (if nat_eq kind 15 then some (client >>= λ c. always (step.Tick c))
    else (if nat_eq kind 16 then some (client >>= λ c. always (step.Nudge c))
    else (if nat_eq kind 17 then some (client >>= λ c. always (step.StartClient c))
    else (if nat_eq kind 18 then some crash
    else server seen.is_down)))))))))))

-- the next step, or none
abbrev pub drawn : Observed → Writes → Draw (Option Step)
drawn seen what = below 20 >>= λ kind. of_kind seen what kind
