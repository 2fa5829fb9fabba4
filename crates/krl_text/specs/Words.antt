-- What a line of a script asks for, and when it is a fault.
use Rattle.std.specs.Prelude.{◌≡◌, ℕ, ◌+◌, ◌^◌, ◌&&◌, min, Bool, true, false, not, if◌then◌else◌, find, nat_eq, nat_lt, nat_le, List, [], ◌∷◌, length, filter, take, drop, slice_index, slice_index_or, position, codes, Option, None, Some, Result, Ok, Err}
use Rattle.std.specs.Int.{w64, to_be_bytes}
use Rattle.std.specs.List.{slice_split}
use Rattle.std.specs.Str.{bytes_eq, all_ascii_digits}
use Rattle.std.specs.Str.Parse.{digits_value}
use Rattle.krl_modes.specs.declared.point.TheConstants.{END, TOP}
use Rattle.krl_modes.specs.declared.mode.Mode.{Mode}
use Rattle.krl_modes.specs.declared.mode.Mode.TheVariants as mode
use Rattle.krl_modes.specs.Names.{mode_named}
use Rattle.krl_steps.specs.declared.step.Step.TheVariants as step
use Rattle.krl_steps.specs.declared.step.Command.TheVariants as command
use Rattle.krl_text.specs.Limits.{max_lines, max_line}
use Rattle.krl_steps.specs.declared.step.Command.{Command}
use Rattle.hex.specs.Hex.{decode_of}
use Rattle.hex.specs.declared.error.FromHexError.{FromHexError}
use Rattle.krl_messages.specs.Values.{Value}
use Rattle.krl_messages.specs.declared.write_op.WriteOp.{WriteOp}
use Rattle.krl_messages.specs.declared.write_op.WriteOp.TheVariants as write
use Rattle.krl_text.specs.declared.word.Word.{Word}
use Rattle.krl_text.specs.declared.word.Word.TheVariants as word
use Rattle.krl_text.specs.declared.word.Alone.{Alone}
use Rattle.krl_text.specs.declared.word.Alone.TheVariants as alone
use Rattle.krl_text.specs.declared.word.OneNumber.{OneNumber}
use Rattle.krl_text.specs.declared.word.OneNumber.TheVariants as one_number
use Rattle.krl_text.specs.declared.word.ClientAndNumber.{ClientAndNumber}
use Rattle.krl_text.specs.declared.word.ClientAndNumber.TheVariants as client_and_number
use Rattle.krl_text.specs.declared.word.Valued.{Valued}
use Rattle.krl_text.specs.declared.word.Valued.TheVariants as valued
use Rattle.krl_text.specs.declared.word.ClientAndTwo.{ClientAndTwo}
use Rattle.krl_text.specs.declared.word.ClientAndTwo.TheVariants as client_and_two
use Rattle.krl_text.specs.declared.request.Request.{Request}
use Rattle.krl_text.specs.declared.request.Request.TheVariants as request
use Rattle.krl_text.specs.declared.request.Query.TheVariants as show
use Rattle.krl_text.specs.declared.fault.SyntaxFault.{SyntaxFault}
use Rattle.krl_text.specs.declared.fault.SyntaxFault.TheVariants.{TooManyLines, LineTooLong, UnknownWord, MissingArgument, ExtraArgument, BadNumber, BadPair, BadValue, BadMode, LateSeed}
use Rattle.krl_text.specs.declared.fault.LineFault.{LineFault}
use Rattle.krl_text.specs.declared.fault.LineFault.TheVariants as line_fault

-- continue with what was read, or keep the fault
infixl 10 ◌>>=◌
abbrev pub ◌>>=◌ : {A B : Type 0} → Result A SyntaxFault →
    (A → Result B SyntaxFault) → Result B SyntaxFault
(Ok x) >>= f = f x
(Err e) >>= f = Err e

-- what is there, or a fault
abbrev pub or_fault : {A : Type 0} → SyntaxFault → Option A → Result A SyntaxFault
or_fault what None = Err what
or_fault what (Some x) = Ok x

-- What a function failed by is what is stated of the text, unless memory ran out.
abbrev pub Fails : {A : Type 0} → LineFault → Result A SyntaxFault → Type 0
Fails line_fault.OutOfMemory said = Unit {0}
Fails (line_fault.Syntax what) said = said ≡ Err what

-- What a function returned is what is stated of the text, unless memory ran out.
abbrev pub Gives : {A : Type 0} → Result A LineFault → Result A SyntaxFault → Type 0
Gives (Ok x) said = said ≡ Ok x
Gives (Err e) said = Fails e said

-- the words of a line: what stands between spaces
abbrev pub words_of : List ℕ → List (List ℕ)
words_of line = filter (λ word. not (nat_eq (length word) 0)) (slice_split (λ b. nat_eq b 32) line)

-- 1 to 20 digits
abbrev pub has_digits : List ℕ → Bool
has_digits word = nat_lt 0 (length word) && (nat_le (length word) 20 && all_ascii_digits word)

-- the number that 1 to 20 digits spell, if it fits in 64 bits
abbrev pub digits_of : List ℕ → Option ℕ
digits_of word =
    if has_digits word && nat_lt (digits_value 10 word) (2 ^ 64) then Some (digits_value 10 word)
    else None

-- the number that a word spells
abbrev pub number_of : List ℕ → Option ℕ
number_of word =
    if bytes_eq word (codes "END") then Some END
    else (if bytes_eq word (codes "TOP") then Some TOP else digits_of word)

-- the eight bytes of a number, if there is one, the highest first
abbrev pub eight_of : Option ℕ → Option Value
eight_of None = None
eight_of (Some n) = Some (to_be_bytes w64 n)

abbrev pub decoded : Result Value FromHexError → Option Value
decoded (Ok bytes) = Some bytes
decoded (Err e) = None

-- the bytes that an even number of hexadecimal digits spell, at most 64 of them, in either case
abbrev pub bytes_of : List ℕ → Option Value
bytes_of digits = if nat_le (length digits) 64 then decoded (decode_of digits) else None

-- the value that a word spells: 'x' and its bytes, or a number, which stands for its eight bytes
abbrev pub value_of : List ℕ → Option Value
value_of [] = None
value_of (b ∷ bs) = if nat_eq b 120 then bytes_of bs else eight_of (number_of (b ∷ bs))

-- both, if both are there
abbrev pub both : Option ℕ → Option Value → Option (ℕ × Value)
both None v = None
both (Some k) None = None
both (Some k) (Some v) = Some (k, v)

-- the key and the value on the two sides of the '=' at this place
abbrev pub pair_at : List ℕ → Option ℕ → Option (ℕ × Value)
pair_at word None = None
pair_at word (Some i) = both (number_of (take i word)) (value_of (drop (i + 1) word))

-- The pair that a word spells: a key and a value round its first '='. No key or value has an '='
-- in it, so there is no second.
abbrev pub pair_of : List ℕ → Option (ℕ × Value)
pair_of word = pair_at word (position (λ b. nat_eq b 61) word)

-- the pairs that words spell
abbrev pub pairs_of : List (List ℕ) → Result (List (ℕ × Value)) SyntaxFault
pairs_of [] = Ok []
pairs_of (word ∷ words) =
    or_fault BadPair (pair_of word) >>= λ pair. pairs_of words >>= λ pairs. Ok (pair ∷ pairs)

-- the mode that a word names
abbrev pub mode_of : List ℕ → Result Mode SyntaxFault
mode_of text = or_fault BadMode (mode_named text)

-- the words as they stand in a script
abbrev pub alone_text : Alone → List ℕ
alone_text alone.Settle = codes "settle"
alone_text alone.Drop = codes "drop"
alone_text alone.Missing = codes "missing"
alone_text alone.Index = codes "index"
alone_text alone.Writes = codes "writes"
alone_text alone.Check = codes "check"
alone_text alone.Modes = codes "modes"

abbrev pub one_number_text : OneNumber → List ℕ
one_number_text one_number.Fill = codes "fill"
one_number_text one_number.Client = codes "client"
one_number_text one_number.Leave = codes "leave"
one_number_text one_number.Tick = codes "tick"
one_number_text one_number.Nudge = codes "nudge"
one_number_text one_number.Deliver = codes "deliver"
one_number_text one_number.Next = codes "next"
one_number_text one_number.Status = codes "status"

abbrev pub client_and_number_text : ClientAndNumber → List ℕ
client_and_number_text client_and_number.Delete = codes "delete"
client_and_number_text client_and_number.Unpin = codes "unpin"
client_and_number_text client_and_number.Hold = codes "hold"

abbrev pub valued_text : Valued → List ℕ
valued_text valued.Insert = codes "insert"
valued_text valued.Put = codes "put"

abbrev pub client_and_two_text : ClientAndTwo → List ℕ
client_and_two_text client_and_two.Scan = codes "scan"
client_and_two_text client_and_two.Forget = codes "forget"
client_and_two_text client_and_two.Pin = codes "pin"

abbrev pub word_text : Word → List ℕ
word_text word.Seed = codes "seed"
word_text word.Lock = codes "lock"
word_text word.Lower = codes "lower"
word_text word.Take = codes "take"
word_text word.Crash = codes "crash"
word_text word.Start = codes "start"
word_text (word.Alone w) = alone_text w
word_text (word.OneNumber w) = one_number_text w
word_text (word.ClientAndNumber w) = client_and_number_text w
word_text (word.Valued w) = valued_text w
word_text (word.ClientAndTwo w) = client_and_two_text w

-- every word
abbrev pub all_words : List Word
all_words =
    word.Seed ∷ word.Lock ∷ word.Lower ∷ word.Take ∷ word.Crash ∷ word.Start
    ∷ word.Alone alone.Settle ∷ word.Alone alone.Drop ∷ word.Alone alone.Missing
    ∷ word.Alone alone.Index ∷ word.Alone alone.Writes ∷ word.Alone alone.Check
    ∷ word.Alone alone.Modes
    ∷ word.OneNumber one_number.Fill ∷ word.OneNumber one_number.Client ∷ word.OneNumber one_number.Leave
    ∷ word.OneNumber one_number.Tick ∷ word.OneNumber one_number.Nudge ∷ word.OneNumber one_number.Deliver
    ∷ word.OneNumber one_number.Next ∷ word.OneNumber one_number.Status
    ∷ word.ClientAndNumber client_and_number.Delete ∷ word.ClientAndNumber client_and_number.Unpin
    ∷ word.ClientAndNumber client_and_number.Hold
    ∷ word.Valued valued.Insert ∷ word.Valued valued.Put ∷ word.ClientAndTwo client_and_two.Scan
    ∷ word.ClientAndTwo client_and_two.Forget ∷ word.ClientAndTwo client_and_two.Pin ∷ []

-- the word of this text
abbrev pub word_named : List ℕ → Option Word
word_named text = find (λ w. bytes_eq text (word_text w)) all_words

-- what a word that stands alone asks for
abbrev pub alone_request : Alone → Request
alone_request alone.Settle = request.Settle
alone_request alone.Drop = request.Drop
alone_request alone.Missing = request.Query show.Missing
alone_request alone.Index = request.Query show.Index
alone_request alone.Writes = request.Query show.Writes
alone_request alone.Check = request.Query show.Check
alone_request alone.Modes = request.Modes

-- what a word asks for with one number
abbrev pub one_number_request : OneNumber → ℕ → Request
one_number_request one_number.Fill n = request.Fill n
one_number_request one_number.Client c = request.Step (step.StartClient c)
one_number_request one_number.Leave c = request.Step (step.Command c command.Leave)
one_number_request one_number.Tick c = request.Step (step.Tick c)
one_number_request one_number.Nudge c = request.Step (step.Nudge c)
one_number_request one_number.Deliver i = request.Deliver i
one_number_request one_number.Next n = request.Next n
one_number_request one_number.Status c = request.Query (show.Status c)

-- what a word asks for with a client and one more number
abbrev pub client_and_number_request : ClientAndNumber → ℕ → ℕ → Request
client_and_number_request client_and_number.Delete c k = request.Step (step.Command c (command.Write (write.Delete k)))
client_and_number_request client_and_number.Unpin c id = request.Step (step.Command c (command.Unpin id))
client_and_number_request client_and_number.Hold c p = request.Query (show.Hold c p)

-- what a word has a client write, with a key and a value
abbrev pub valued_change : Valued → ℕ → Value → WriteOp
valued_change valued.Insert k v = write.Insert k v
valued_change valued.Put k v = write.Put k v

abbrev pub valued_request : Valued → ℕ → ℕ → Value → Request
valued_request w c k v = request.Step (step.Command c (command.Write (valued_change w k v)))

-- the same after 'take': the client takes the lock that the write needs
abbrev pub taking_request : Valued → ℕ → ℕ → Value → Request
taking_request w c k v = request.Step (step.Command c (command.Seize (valued_change w k v)))

-- the command of a word to a client, with two numbers
abbrev pub client_and_two_command : ClientAndTwo → ℕ → ℕ → Command
client_and_two_command client_and_two.Scan lo hi = command.Scan lo hi
client_and_two_command client_and_two.Forget lo hi = command.Lower lo hi mode.N
client_and_two_command client_and_two.Pin lo hi = command.Pin lo hi

abbrev pub client_and_two_request : ClientAndTwo → ℕ → ℕ → ℕ → Request
client_and_two_request w c m n = request.Step (step.Command c (client_and_two_command w m n))

-- there are n arguments
abbrev pub argument_count : ℕ → List (List ℕ) → Result Unit SyntaxFault
argument_count n arguments =
    if nat_lt (length arguments) n then Err MissingArgument
    else (if nat_lt n (length arguments) then Err ExtraArgument else Ok tt)

-- there are no fewer and no more than these
abbrev pub argument_count_within : ℕ → ℕ → List (List ℕ) → Result Unit SyntaxFault
argument_count_within few most arguments =
    if nat_lt (length arguments) few then Err MissingArgument
    else (if nat_lt most (length arguments) then Err ExtraArgument else Ok tt)

-- the argument at a place, from 0
abbrev pub argument : List (List ℕ) → ℕ → List ℕ
argument arguments i = slice_index_or arguments i []

-- the number at a place
abbrev pub number_at : List (List ℕ) → ℕ → Result ℕ SyntaxFault
number_at arguments i = or_fault BadNumber (number_of (argument arguments i))

-- one number, and no more arguments
abbrev pub one_number_of : List (List ℕ) → Result ℕ SyntaxFault
one_number_of arguments = argument_count 1 arguments >>= λ _. number_at arguments 0

-- two numbers
abbrev pub client_and_number_of : List (List ℕ) → Result (ℕ × ℕ) SyntaxFault
client_and_number_of arguments =
    argument_count 2 arguments >>= λ _. number_at arguments 0 >>= λ m.
    number_at arguments 1 >>= λ n. Ok (m, n)

-- three numbers
abbrev pub client_and_two_of : List (List ℕ) → Result (ℕ × ℕ × ℕ) SyntaxFault
client_and_two_of arguments =
    argument_count 3 arguments >>= λ _. number_at arguments 0 >>= λ l.
    number_at arguments 1 >>= λ m. number_at arguments 2 >>= λ n. Ok (l, m, n)

-- a client, a key and a value
abbrev pub valued_of : List (List ℕ) → Result (ℕ × ℕ × Value) SyntaxFault
valued_of arguments =
    argument_count 3 arguments >>= λ _. number_at arguments 0 >>= λ c.
    number_at arguments 1 >>= λ k. or_fault BadValue (value_of (argument arguments 2)) >>= λ v. Ok (c, k, v)

-- one pair at least
abbrev pub seed_of : List (List ℕ) → Result Request SyntaxFault
seed_of arguments =
    if nat_lt (length arguments) 1 then Err MissingArgument
    else pairs_of arguments >>= λ pairs. Ok (request.Seed pairs)

-- where a lock ends: the fourth argument, or one past its point. Past the last point there is none, and such a lock is
-- refused for its point
abbrev pub reach_of : ℕ → List (List ℕ) → Result ℕ SyntaxFault
reach_of p arguments =
    if nat_lt 3 (length arguments) then number_at arguments 3 else Ok (min (p + 1) 18446744073709551615)

-- a client, a point and a mode, and where it ends
abbrev pub lock_of : List (List ℕ) → Result Request SyntaxFault
lock_of arguments =
    argument_count_within 3 4 arguments >>= λ _. number_at arguments 0 >>= λ c.
    number_at arguments 1 >>= λ p. mode_of (argument arguments 2) >>= λ m. reach_of p arguments >>= λ hi.
    Ok (request.Step (step.Command c (command.Lock p hi m)))

-- a client, the two ends of a span, and the greatest mode that the client keeps of it
abbrev pub lower_of : List (List ℕ) → Result Request SyntaxFault
lower_of arguments =
    argument_count 4 arguments >>= λ _. number_at arguments 0 >>= λ c.
    number_at arguments 1 >>= λ lo. number_at arguments 2 >>= λ hi. mode_of (argument arguments 3) >>= λ keep.
    Ok (request.Step (step.Command c (command.Lower lo hi keep)))

-- what a line asks for that writes, after 'take'; no other line may stand there
abbrev pub taken_of : Word → List (List ℕ) → Result Request SyntaxFault
taken_of (word.Valued w) arguments =
    valued_of arguments >>= λ x. Ok (taking_request w x.0 x.1 x.2)
taken_of (word.ClientAndNumber client_and_number.Delete) arguments =
    client_and_number_of arguments >>= λ x.
    Ok (request.Step (step.Command x.0 (command.Seize (write.Delete x.1))))
taken_of other arguments = Err UnknownWord

abbrev pub take_of : List (List ℕ) → Result Request SyntaxFault
take_of [] = Err MissingArgument
take_of (text ∷ arguments) =
    or_fault UnknownWord (word_named text) >>= λ word. taken_of word arguments

-- the argument is the word 'server'
abbrev pub is_server : List (List ℕ) → Bool
is_server arguments = bytes_eq (argument arguments 0) (codes "server")

-- 'server', or a client
abbrev pub crash_of : List (List ℕ) → Result Request SyntaxFault
crash_of arguments =
    argument_count 1 arguments >>= λ _.
    if is_server arguments then Ok (request.Step step.CrashServer)
    else number_at arguments 0 >>= λ c. Ok (request.Step (step.CrashClient c))

-- 'server'; 'start' with another argument is no word
abbrev pub start_of : List (List ℕ) → Result Request SyntaxFault
start_of arguments =
    if nat_lt 0 (length arguments) && not (is_server arguments) then Err UnknownWord
    else argument_count 1 arguments >>= λ _. Ok (request.Step step.StartServer)

-- What a word with these arguments asks for. How many there are comes first, and then they are
-- judged from left to right.
unfoldable pub request_of : Word → List (List ℕ) → Result Request SyntaxFault
request_of word.Seed arguments = seed_of arguments
request_of word.Lock arguments = lock_of arguments
request_of word.Lower arguments = lower_of arguments
request_of word.Take arguments = take_of arguments
request_of word.Crash arguments = crash_of arguments
request_of word.Start arguments = start_of arguments
request_of (word.Alone w) arguments = argument_count 0 arguments >>= λ _. Ok (alone_request w)
request_of (word.OneNumber w) arguments = one_number_of arguments >>= λ n. Ok (one_number_request w n)
request_of (word.ClientAndNumber w) arguments =
    client_and_number_of arguments >>= λ x. Ok (client_and_number_request w x.0 x.1)
request_of (word.Valued w) arguments =
    valued_of arguments >>= λ x. Ok (valued_request w x.0 x.1 x.2)
request_of (word.ClientAndTwo w) arguments =
    client_and_two_of arguments >>= λ x. Ok (client_and_two_request w x.0 x.1 x.2)

-- what a line of these words asks for, none of them empty
abbrev pub meaning_of_words : List (List ℕ) → Result Request SyntaxFault
meaning_of_words [] = Ok request.Nothing
meaning_of_words (text ∷ arguments) =
    or_fault UnknownWord (word_named text) >>= λ word. request_of word arguments

-- What a line asks for, wherever it stands. One that begins with '#' asks for nothing.
unfoldable pub meaning_of : List ℕ → Result Request SyntaxFault
meaning_of line =
    if nat_eq (slice_index line 0) 35 then Ok request.Nothing else meaning_of_words (words_of line)

-- the request makes a world
abbrev pub makes_world : Request → Bool
makes_world (request.Seed entries) = true
makes_world (request.Fill n) = true
makes_world other = false

-- a request that makes a world may stand only before every other one
abbrev pub in_time : Bool → Request → Result Request SyntaxFault
in_time begun request = if begun && makes_world request then Err LateSeed else Ok request

-- What the line of number n, counted from 1, asks for, or its first fault; begun states that the world is made.
unfoldable pub line_request : Bool → ℕ → List ℕ → Result Request SyntaxFault
line_request begun n line =
    if nat_lt max_lines n then Err TooManyLines
    else (if nat_lt max_line (length line) then Err LineTooLong
    else meaning_of line >>= in_time begun)
