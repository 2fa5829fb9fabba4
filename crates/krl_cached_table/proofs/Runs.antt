-- The steps by which a reader, client 1, comes to answer from memory. The worker is client 0. Each key n is of the stripe
-- 10 + n; key 2 is of the table whose mark is 6, and all others are of that whose mark is 5.
use Rattle.std.proofs.Common.{◌≡◌, ℕ, suc, ◌+◌, Bool, inl, inr, true, false, refl, sym, ◌∙◌, ap, subst, true≢false, arith, if◌then◌else◌, eqb}
use Rattle.std.proofs.lemmas.Bool.{eqb-true, ne_eqb, cond-false, cond_both}
use Rattle.krl_modes.specs.Parts.{keys_compatible, reads_key}
use Rattle.krl_modes.specs.declared.part.KeyPart.{KeyPart}
use Rattle.krl_modes.specs.declared.part.KeyPart.TheVariants as part
use Rattle.krl_cached_table.specs.Worlds.{Setting, IsPlaceOf, row_after, PlaceStage, Held, Counted, Unnoticed, Quiet, World, new_load}
use Rattle.krl_cached_table.specs.Steps.{put, IsCompatible, NobodyGaveNotice, begins, finds_open, sees_no_notice, finds_count, takes_rows, Step, locks_change, loads, counts_as_kept, Steps, none, more, Reachable, stepped}
use Rattle.krl_cached_table.proofs.Sound.{put_all, put_here}

abbrev pub g : Setting
g = record { stripe_of = λ key. 10 + key; mark_of = λ key. if eqb key 2 then 6 else 5; cluster_mark = 9; is_worker = λ c. eqb c 0 }

-- One client holds all keys, and each tenure is a new one

abbrev pub owned : ℕ → KeyPart → ℕ → ℕ → KeyPart
owned owner k c p = if eqb c owner then k else part.N

with_N : (k : KeyPart) → keys_compatible k part.N ≡ true
with_N part.N = refl
with_N part.S = refl
with_N part.U = refl
with_N part.X = refl

pub compatible : (owner : ℕ) (k : KeyPart) → IsCompatible (owned owner k)
compatible owner k c d p differ = cond_both (eqb c owner) k part.N (λ a. keys_compatible a (if eqb d owner then k else part.N) ≡ true)
    (λ e. subst (λ a. keys_compatible k a ≡ true) (sym (cond-false (eqb d owner) k part.N (ne_eqb d owner (λ i. differ (eqb-true c owner e ∙ sym i))))) (with_N k))
    (λ e. refl)

abbrev pub given : World → ℕ → KeyPart → World
given w owner k = record w { held = owned owner k; tenure = λ c p. suc (w.tenure c p) }

pub gives : (w : World) (owner : ℕ) (k : KeyPart) → Step g w (given w owner k)
gives w owner k = locks_change (owned owner k) (λ c p. suc (w.tenure c p)) (compatible owner k) (λ c p. inl (omega arith))

pub steps_on : {u v w : World} → Steps g u v → Steps g v w → Steps g u w
steps_on a none = a
steps_on a (more b step) = more (steps_on a b) step

pub reaches : {u v : World} → Reachable g u → Steps g u v → Reachable g v
reaches r none = r
reaches r (more b step) = stepped _ _ (reaches r b) step

-- A load of key 3

abbrev places : ℕ → Bool
places = put (put (put (λ p. false) 13 true) 5 true) 9 true

pub listed : (p : ℕ) → IsPlaceOf g 3 p → places p ≡ true
listed p (inl e) = subst (λ q. places q ≡ true) (sym e) refl
listed p (inr (inl e)) = subst (λ q. places q ≡ true) (sym e) refl
listed p (inr (inr e)) = subst (λ q. places q ≡ true) (sym e) refl

abbrev with_load : World → World
with_load w = record w { loads = put w.loads 0 (new_load 1 places (w.tenure 1) w.nonce) }

abbrev opened : World → World
opened w = record w { loads = put (with_load w).loads 0 (record ((with_load w).loads 0) { found_open = true; stage = λ p. Held }) }

abbrev counted : World → ℕ → World
counted w p =
    record w {
      counts = put w.counts p (record (w.counts p) { is_kept = true });
      loads = put w.loads 0 (record (w.loads 0) { stage = put (w.loads 0).stage p (Counted (w.counts p).recalls) });
    }

abbrev at_stage : World → ℕ → PlaceStage → World
at_stage w p s = record w { loads = put w.loads 0 (record (w.loads 0) { stage = put (w.loads 0).stage p s }) }

abbrev asked : World → ℕ → World
asked w p = at_stage (at_stage (counted w p) p (Unnoticed (w.counts p).recalls)) p Quiet

-- krl.quiet finds nothing of the place
asks : (w : World) (p : ℕ) → (w.loads 0).stage p ≡ Held → (w.loads 0).found_open ≡ true → NobodyGaveNotice w p → Steps g w (asked w p)
asks w p held found nobody =
    more (more (more none
    (counts_as_kept 0 p held found))
    (loads 0 (record ((counted w p).loads 0) { stage = put ((counted w p).loads 0).stage p (Unnoticed recalls) })
    (sees_no_notice p recalls (put_here (w.loads 0).stage p (Counted recalls)) found nobody)))
    (loads 0 (record ((at_stage (counted w p) p (Unnoticed recalls)).loads 0) { stage = put ((at_stage (counted w p) p (Unnoticed recalls)).loads 0).stage p Quiet })
    (finds_count p recalls (put_here ((counted w p).loads 0).stage p (Unnoticed recalls)) found
    (ap (λ k. k.recalls) (put_here w.counts p (record (w.counts p) { is_kept = true })))
    (ap (λ k. k.is_kept) (put_here w.counts p (record (w.counts p) { is_kept = true })))))
  where
    recalls : ℕ
    recalls = (w.counts p).recalls

abbrev quiet : World → World
quiet w = asked (asked (asked (opened w) 13) 5) 9

abbrev pub loaded : World → World
loaded w = record (quiet w) { loads = put (quiet w).loads 0 (record ((quiet w).loads 0) { is_kept = true; rows = row_after w.changes }) }

-- The database is up, with the nonce of its start in the mark, client 1 holds all, and nobody has given notice
module _ (w : World) (held : w.held ≡ owned 1 part.S) (up : w.is_up ≡ true) (closed : w.is_closed ≡ false) (new : w.nonce ≡ w.start) (nobody : (p : ℕ) → NobodyGaveNotice w p) where
  begins_load : Step g w (with_load w)
  begins_load = loads 0 (new_load 1 places (w.tenure 1) w.nonce) (begins 1 places refl (λ p listed. ap (λ (h : ℕ → ℕ → KeyPart). reads_key (h 1 p)) held))

  opens_load : Step g (with_load w) (opened w)
  opens_load = loads 0 (record ((with_load w).loads 0) { found_open = true; stage = λ p. Held }) (finds_open (up, closed, new))

  all_quiet : (p : ℕ) → places p ≡ true → ((quiet w).loads 0).stage p ≡ Quiet
  all_quiet =
      put_all IsQuiet (put (put (λ p. false) 13 true) 5 true) 9 true (λ e. refl)
      (put_all IsQuiet (put (λ p. false) 13 true) 5 true (λ e. refl)
      (put_all IsQuiet (λ p. false) 13 true (λ e. refl) (λ p e. absurd (true≢false (sym e)))))
    where
      IsQuiet : ℕ → Bool → Type 0
      IsQuiet p b = b ≡ true → ((quiet w).loads 0).stage p ≡ Quiet

  pub loads_rows : Steps g w (loaded w)
  loads_rows =
      more (steps_on (steps_on (steps_on (more (more none begins_load) opens_load)
      (asks (opened w) 13 refl refl (nobody 13)))
      (asks (asked (opened w) 13) 5 refl refl (nobody 5)))
      (asks (asked (asked (opened w) 13) 5) 9 refl refl (nobody 9)))
      (loads 0 (record ((quiet w).loads 0) { is_kept = true; rows = row_after w.changes }) (takes_rows all_quiet))
