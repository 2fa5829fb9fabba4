-- A page of the entries of a server's index, as C sees it.
use Rattle.std.specs.Prelude.{◌≡◌, ℕ, List, [], ◌∷◌, ◌++◌, length, take, drop, map, Option, Some, None}
use Rattle.krl_messages.specs.Values.{Value}
use Rattle.krl_durable.specs.Index.{range}
use Rattle.krl_server.specs.declared.state.State.{State}
use Rattle.krl_server.specs.StateMeaning as servers
use Rattle.krl_embed.specs.declared.code.Code.{Code}
use Rattle.krl_embed.specs.declared.code.Code.TheVariants as code
use Rattle.krl_embed.specs.declared.endpoint.Endpoint.{Endpoint}
use Rattle.krl_embed.specs.declared.notes.Notes.{Notes}
use Rattle.krl_embed.specs.declared.page.Page.{Page}
use Rattle.krl_embed.specs.declared.rows.Row.{Row}
use Rattle.krl_embed.specs.Endpoints.{IsCode}
use Rattle.krl_embed.specs.Notes.{shown}
use Rattle.krl_embed.specs.Replies.{code_of}
use Rattle.krl_embed.specs.Rows.{row_of}

-- the first key, or this one if there is none
abbrev pub first_or : ℕ → List (ℕ × Value) → ℕ
first_or hi [] = hi
first_or hi (e ∷ es) = e.0

-- as many of the entries as there is room for are in front of the room's old rows; the others begin at next, or it is
-- hi
pub record Fills (found : List (ℕ × Value)) (hi : ℕ) (was now : List Row) (r : ℕ × ℕ) : Type 0 where
  pub count : r.0 ≡ length (take (length was) found)
  pub next : r.1 ≡ first_or hi (drop (length was) found)
  pub rows : now ≡ map row_of (take (length was) found) ++ drop (length (take (length was) found)) was

-- the entries of the server's index from lo on below hi, in key order, as many as there is room for
abbrev pub ShowsPage : ℕ → ℕ → List Row → List Row → State → Page → Type 0
ShowsPage lo hi was now s r =
    (code_of r.reply ≡ Some code.Done)
    × Fills (range (servers.meaning s).durable.index lo hi) hi was now (r.reply.detail, r.next)

-- this code, and no entries
abbrev pub IsNoPage : Code → Page → Type 0
IsNoPage c r = IsCode c r.reply × (r.next ≡ 0) × (r.after ≡ 0)

-- and the room is as it was
abbrev pub IsUnfilled : List Row → List Row → Code → Page → Type 0
IsUnfilled was now c r = IsNoPage c r × (now ≡ was)

-- entries rest on all notes that were reported; a refusal rests on none
abbrev pub rests_on : Notes → Option Code → ℕ
rests_on n (Some code.Done) = shown n
rests_on n _ = 0

-- of what a handle keeps, if it is open
abbrev pub rests_on_handle : Option Endpoint → Option Code → ℕ
rests_on_handle None c = 0
rests_on_handle (Some e) c = rests_on e.notes c
