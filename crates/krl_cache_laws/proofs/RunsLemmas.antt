-- A run, and one call more.
use Rattle.std.proofs.Common.{◌≡◌, ℕ, ◌+◌, ◌<◌, List, [], ◌∷◌, ◌++◌, take, length, get_or, refl, sym, ap, subst, ◌∙◌}
use Rattle.std.proofs.lemmas.List.{take_more}
use Rattle.krl_cache_laws.specs.declared.run.CacheCall.{CacheCall}
use Rattle.krl_cache_laws.specs.declared.run.CacheReply.{CacheReply}
use Rattle.krl_cache.specs.Beliefs.{Belief}
use Rattle.krl_cache_laws.specs.Runs.{IsStep, Runs}

pub runs_more : (b m n : Belief) (cs : List CacheCall) (rs : List CacheReply) (c : CacheCall) (r : CacheReply) → Runs b cs rs m → IsStep m c r n → Runs b (cs ++ c ∷ []) (rs ++ r ∷ []) n
runs_more b m n [] [] c r h s = (n, subst (λ (x : Belief). IsStep x c r n) h s, refl)
runs_more b m n [] (q ∷ rs) c r h s = absurd h
runs_more b m n (d ∷ cs) [] c r h s = absurd h
runs_more b m n (d ∷ cs) (q ∷ rs) c r h s = (h.0, h.1, runs_more h.0 m n cs rs c r h.2 s)

pub runs_step : (b m n : Belief) (calls : List CacheCall) (i : ℕ) (c : CacheCall) (r : CacheReply) (old new : List CacheReply) → Runs b (take i calls) old m → IsStep m c r n → i < length calls → c ≡ get_or calls i c → new ≡ old ++ r ∷ [] → Runs b (take (i + 1) calls) new n
runs_step b m n calls i c r old new h s l at is =
    let taken : take (i + 1) calls ≡ take i calls ++ c ∷ [] = take_more calls i c l ∙ ap (λ (x : CacheCall). take i calls ++ x ∷ []) (sym at) in
    subst (λ (cs : List CacheCall). Runs b cs new n) (sym taken)
    (subst (λ (rs : List CacheReply). Runs b (take i calls ++ c ∷ []) rs n) (sym is) (runs_more b m n (take i calls) old c r h s))
