-- The row of a server that has just started has what the store has.
use Rattle.std.proofs.Common.{◌≡◌, ℕ, Bool, true, false, refl, ◌∙◌, ap}
use Rattle.std.specs.Prelude.{◌||◌, ◌==◌, max, if◌then◌else◌}
use Rattle.std.proofs.lemmas.Bool.{or_parts}
use Rattle.krl_leases.specs.declared.length.Terms.{Terms}
use Rattle.krl_leases.specs.declared.until.Until.{Until}
use Rattle.krl_leases.specs.declared.kept.Kept.{Kept}
use Rattle.krl_leases.specs.Machine.{Registered}
use Rattle.krl_leases.specs.Servers as servers
use Rattle.krl_lease_table.specs.declared.standing.Standing.TheVariants.{Absent, Present}
use Rattle.krl_lease_table.specs.Rows as rows
use Rattle.krl_lease_table.specs.Tables as tables
use Rattle.krl_lease_table.specs.Laws.{StartsAsStored}

differ : {A : Type 0} (until : Until) → Absent ≡ Present until → A
differ until e = absurd (no e)
  where
    no : Absent ≡ Present until → ⊥
    no e = cc

same_end : (x y : Until) → Present x ≡ Present y → y ≡ x
same_end x y e = cc

abbrev chosen : Bool → Kept → Kept → Kept
chosen b x y = if b then x else y

-- what the row has of the store is what the server has to store
kept_alike : (kept : Kept) (terms : Terms) (j : ℕ) (left : Bool) → rows.kept_of (servers.kept_from kept terms).longest (tables.store_row terms j left kept.is_unleased) ≡ servers.kept_from kept terms
kept_alike kept terms j left = by (servers.grants_for_ever terms)
  where
    by : (b : Bool) → ◌≡◌ {A = Kept} (record {
      longest = (chosen b (record { longest = kept.longest; is_unleased = true }) (record { longest = max kept.longest terms.length; is_unleased = kept.is_unleased })).longest;
      is_unleased = (chosen b (record { longest = 0; is_unleased = true }) (record { longest = max 0 terms.length; is_unleased = kept.is_unleased })).is_unleased;
    }) (chosen b (record { longest = kept.longest; is_unleased = true }) (record { longest = max kept.longest terms.length; is_unleased = kept.is_unleased }))
    by true = refl
    by false = refl

pub starts_as_stored : StartsAsStored
starts_as_stored clocks w number terms i j left unknown known = record {
  unknown = unknown;
  present = λ q until e. by (left || j == 0) refl q until e;
}
  where
    by : (b : Bool) → (left || j == 0) ≡ b → j ≡ i → (until : Until) → rows.opened_at (rows.kept_of (servers.kept_from w.kept terms).longest (tables.store_row terms j left w.kept.is_unleased)) terms (clocks.server number w.now) (if b then Absent else Present rows.never) ≡ Present until → (w.standing ≡ Registered) × (until ≡ servers.restarted (servers.kept_from w.kept terms) terms (clocks.server number w.now))
    by true s q until e = differ until e
    by false s q until e = (known q (or_parts left (j == 0) s).0, same_end (servers.restarted (rows.kept_of (servers.kept_from w.kept terms).longest (tables.store_row terms j left w.kept.is_unleased)) terms (clocks.server number w.now)) until e ∙ ap (λ k. servers.restarted k terms (clocks.server number w.now)) (kept_alike w.kept terms j left))
