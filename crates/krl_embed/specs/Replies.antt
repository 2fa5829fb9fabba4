-- The numbers of codes.
use Rattle.std.specs.Prelude.{ℕ, List, [], ◌∷◌, Option, slice_get}
use Rattle.krl_embed.specs.declared.code.Code.{Code}
use Rattle.krl_embed.specs.declared.code.Code.TheVariants as code
use Rattle.krl_embed.specs.declared.reply.Reply.{Reply}

-- in the order of their numbers, from 0 on
abbrev pub all_codes : List Code
all_codes =
    code.Done ∷ code.Unsaid ∷ code.OutOfMemory ∷ code.Closed ∷ code.OpenAlready ∷ code.NoClient ∷ code.NoServer
    ∷ code.Gone ∷ code.BadMessage ∷ code.TooShort ∷ code.Miss ∷ code.Pending ∷ code.Alarm ∷ code.BadClient ∷ code.Spent
    ∷ code.BadRecord ∷ code.BadValue ∷ code.BadKey ∷ code.Twice ∷ code.Full ∷ code.BadMode ∷ code.BadPoint
    ∷ code.BadSpan ∷ code.NotJoined ∷ code.Busy ∷ code.NotHeld ∷ code.Pinned ∷ code.Writing ∷ code.TooManyPins
    ∷ code.BadIncarnation ∷ code.BadShards ∷ code.BadRoom ∷ code.Unkept ∷ code.NotTold ∷ code.BadReach
    ∷ code.StillAnswers ∷ code.LeaseEnded ∷ []

-- the code of a number, if it is one's
unfoldable pub code_at : ℕ → Option Code
code_at n = slice_get all_codes n

-- the code of a reply, by name
abbrev pub code_of : Reply → Option Code
code_of r = code_at r.code
