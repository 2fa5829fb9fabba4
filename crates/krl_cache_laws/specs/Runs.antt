-- Runs of calls: what each answers, and what is believed after it.
use Rattle.std.specs.Prelude.{◌≡◌, ◌≢◌, true, List, [], ◌∷◌, ◌⊎◌}
use Rattle.krl_cache_laws.specs.declared.run.CacheCall.{CacheCall}
use Rattle.krl_cache_laws.specs.declared.run.CacheCall.TheVariants as call
use Rattle.krl_cache_laws.specs.declared.run.CacheReply.{CacheReply}
use Rattle.krl_cache_laws.specs.declared.run.CacheReply.TheVariants as cache_reply
use Rattle.krl_messages.specs.declared.pieces.Pieces.{Pieces}
use Rattle.krl_messages.specs.Holdings.{has_its_value, have_values}
use Rattle.krl_cache.specs.Beliefs.{Belief, adopt, adopt_all, lower, Scans, CoversAll}
use Rattle.krl_cache.specs.Kept.{Describes}

-- what is adopted follows the rule on values
abbrev pub IsRuled : CacheCall → Type 0
IsRuled (call.RangeAt p) = Unit {0}
IsRuled (call.KeyAt p) = Unit {0}
IsRuled (call.ValueAt p) = Unit {0}
IsRuled (call.Adopt h) = has_its_value h ≡ true
IsRuled (call.AdoptAll hs) = have_values hs ≡ true
IsRuled (call.Lower s keep) = Unit {0}
IsRuled (call.Scan s) = Unit {0}
IsRuled call.Pieces = Unit {0}

-- what is believed after a call
abbrev pub after : CacheCall → Belief → Belief
after (call.RangeAt p) b = b
after (call.KeyAt p) b = b
after (call.ValueAt p) b = b
after (call.Adopt h) b = adopt h b
after (call.AdoptAll hs) b = adopt_all hs b
after (call.Lower s keep) b = lower s keep b
after (call.Scan s) b = b
after call.Pieces b = b

abbrev pub FoundIs : Belief → CacheCall → CacheReply → Type 0
FoundIs b (call.Scan s) (cache_reply.Found x) = Scans b s x
FoundIs b call.Pieces (cache_reply.Told ps) = Describes ps b
FoundIs b c r = ⊥

-- what a call answers
abbrev pub IsReply : Belief → CacheCall → CacheReply → Type 0
IsReply b (call.RangeAt p) r = r ≡ cache_reply.Range (b.range_at p)
IsReply b (call.KeyAt p) r = r ≡ cache_reply.Key (b.key_at p)
IsReply b (call.ValueAt p) r = r ≡ cache_reply.Value (b.value_at p)
IsReply b (call.Adopt h) r = r ≡ cache_reply.Done
IsReply b (call.AdoptAll hs) r = r ≡ cache_reply.Done
IsReply b (call.Lower s keep) r = r ≡ cache_reply.Done
IsReply b (call.Scan s) r = FoundIs b (call.Scan s) r
IsReply b call.Pieces r = FoundIs b call.Pieces r

-- a call takes memory: a scan does if each point is known
abbrev pub NeedsMemory : Belief → CacheCall → Type 0
NeedsMemory b (call.RangeAt p) = ⊥
NeedsMemory b (call.KeyAt p) = ⊥
NeedsMemory b (call.ValueAt p) = ⊥
NeedsMemory b (call.Adopt h) = Unit {0}
NeedsMemory b (call.AdoptAll hs) = Unit {0}
NeedsMemory b (call.Lower s keep) = Unit {0}
NeedsMemory b (call.Scan s) = CoversAll b s
NeedsMemory b call.Pieces = Unit {0}

-- the call is answered and has its effect, or its memory is refused and nothing changes
abbrev pub IsStep : Belief → CacheCall → CacheReply → Belief → Type 0
IsStep b c r n = (IsReply b c r × (n ≡ after c b))
    ⊎ (NeedsMemory b c × (r ≡ cache_reply.OutOfMemory) × (n ≡ b))

-- each call in turn
abbrev pub Runs : Belief → List CacheCall → List CacheReply → Belief → Type 0
Runs b [] [] n = n ≡ b
Runs b [] (r ∷ rs) n = ⊥
Runs b (c ∷ cs) [] n = ⊥
Runs b (c ∷ cs) (r ∷ rs) n = (m : Belief) × (IsStep b c r m) × (Runs m cs rs n)

-- no memory was refused
abbrev pub AllAnswered : List CacheReply → Type 0
AllAnswered [] = Unit {0}
AllAnswered (r ∷ rs) = (r ≢ cache_reply.OutOfMemory) × AllAnswered rs

-- one pair of lists describes a belief
abbrev pub PiecesAreDetermined : Type 0
PiecesAreDetermined = (b : Belief) (ps qs : Pieces) → Describes ps b → Describes qs b → ps ≡ qs

-- two runs of the same calls from one belief, if no memory is refused, give the same answers
-- and leave one belief
abbrev pub RunsAgree : Type 0
RunsAgree =
    (b m n : Belief) (cs : List CacheCall) (rs ss : List CacheReply) → Runs b cs rs m
    → Runs b cs ss n → AllAnswered rs → AllAnswered ss → (m ≡ n) × (rs ≡ ss)
