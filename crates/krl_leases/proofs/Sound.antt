-- What holds of each state of each run.
use Rattle.std.proofs.Common.{◌≡◌, ◌<◌, ◌≤◌, ℕ, ◌+◌, ◌⊎◌, true, false, [], Option, Some, None, refl, inl, inr}
use Rattle.std.proofs.lemmas.Option.{none-some}
use Rattle.krl_leases.specs.declared.length.TheConstants.{FOR_EVER}
use Rattle.krl_leases.specs.declared.lease.Lease.{Lease}
use Rattle.krl_leases.specs.declared.until.Until.{Until}
use Rattle.krl_leases.specs.declared.kept.Kept.{Kept}
use Rattle.krl_leases.specs.Clocks.{Clocks, Limits, MayGrant}
use Rattle.krl_leases.specs.Machine.{Sign, Grant, Server, Unknown, Registered, Evicted, State, In, begun}

-- the client lives by these terms, or may take them, or may be sent them
abbrev pub Live : State → Grant → Type 0
Live w g = (w.lives_by ≡ Some g) ⊎ (In g w.grants ⊎ In g w.waiting)

abbrev pub HasTerms : State → Type 0
HasTerms w = (g : Grant) × (w.lives_by ≡ Some g)

-- by the client's clock the lease has ended at this moment
abbrev pub HasEnded : Clocks → Grant → ℕ → Type 0
HasEnded clocks g t = clocks.client g.moment + g.length ≤ clocks.client t

-- from now on the lease has ended whenever the clock of the server's machine has come to the moment
pub record Covers (clocks : Clocks) (machine now : ℕ) (until : Until) (g : Grant) : Type 0 where
  pub endless : FOR_EVER ≤ g.length → FOR_EVER ≤ until.moment
  pub ends : g.length < FOR_EVER → until.moment < FOR_EVER →
      (t : ℕ) → now ≤ t → until.moment ≤ clocks.server machine t → HasEnded clocks g t

-- what is kept states that the lease may run, or it has ended for good
pub record IsKept (clocks : Clocks) (now : ℕ) (kept : Kept) (g : Grant) : Type 0 where
  pub endless : FOR_EVER ≤ g.length → kept.is_unleased ≡ true
  pub ends : g.length < FOR_EVER → (g.length ≤ kept.longest) ⊎ ((t : ℕ) → now ≤ t → HasEnded clocks g t)

-- the client's lease ends no later than the terms state
pub record LivesBy (clocks : Clocks) (lease : Lease) (g : Grant) : Type 0 where
  pub end : lease.end ≤ clocks.client g.moment + g.length
  pub length : lease.length ≡ g.length

-- no server runs
pub record Alone (w : State) : Type 0 where
  pub connected : w.is_connected ≡ false
  pub signs : w.signs ≡ []
  pub waiting : w.waiting ≡ []
  pub hello : w.says_hello ≡ false

-- this one does
pub record Serves (limits : Limits) (clocks : Clocks) (w : State) (s : Server) : Type 0 where
  pub may : MayGrant limits s.terms
  pub number : s.until.moment ≤ FOR_EVER
  pub waiting : (g : Grant) → In g w.waiting → g.length ≡ s.terms.length
  pub grants : w.is_connected ≡ true → (g : Grant) → In g w.grants → g.length ≡ s.terms.length
  pub greeted : w.is_connected ≡ true → w.is_greeted ≡ true → (g : Grant) → w.lives_by ≡ Some g → g.length ≡ s.terms.length
  pub hello : w.says_hello ≡ true → (g : Grant) → Live w g → g.length ≡ s.terms.length
  pub signs : (x : Sign) → In x w.signs → (g : Grant) → w.lives_by ≡ Some g → (g.length ≡ x.said) ⊎ (g.length ≡ s.terms.length)
  pub until : w.standing ≡ Registered → (g : Grant) → Live w g → Covers clocks s.machine w.now s.until g
  pub old : w.standing ≡ Registered → (g : Grant) → Live w g → g.length < FOR_EVER → (g.length ≤ s.terms.length) ⊎ Covers clocks s.machine w.now s.old g
  pub longest : s.terms.length < FOR_EVER → s.terms.length ≤ w.kept.longest
  pub unleased : w.standing ≡ Registered → s.terms.length ≡ FOR_EVER → w.kept.is_unleased ≡ true

abbrev pub ByServer : Limits → Clocks → State → Option Server → Type 0
ByServer limits clocks w (Some s) = Serves limits clocks w s
ByServer limits clocks w None = Alone w

-- the lease has ended for good
pub record IsOver (clocks : Clocks) (now : ℕ) (g : Grant) : Type 0 where
  pub ends : g.length < FOR_EVER
  pub over : (t : ℕ) → now ≤ t → HasEnded clocks g t

pub record Sound (limits : Limits) (clocks : Clocks) (w : State) : Type 0 where
  pub past : (g : Grant) → Live w g → g.moment ≤ w.now
  pub said_before : (x : Sign) → In x w.signs → x.moment ≤ w.now
  pub short : (g : Grant) → Live w g → (g.length ≤ limits.longest) ⊎ (g.length ≡ FOR_EVER)
  pub lease : (g : Grant) → w.lives_by ≡ Some g → LivesBy clocks w.lease g
  pub connected : (x : Sign) → In x w.signs → w.is_connected ≡ true
  pub terms_first : w.is_greeted ≡ true → HasTerms w
  pub hello_first : w.says_hello ≡ true → HasTerms w
  pub known_first : (w.standing ≡ Unknown → ⊥) → HasTerms w
  pub kept : w.standing ≡ Registered → (g : Grant) → Live w g → IsKept clocks w.now w.kept g
  pub server : ByServer limits clocks w w.server
  pub evicted : w.standing ≡ Evicted → (g : Grant) → Live w g → IsOver clocks w.now g

nothing_lives : {A : Type 0} (g : Grant) → Live begun g → A
nothing_lives g (inl e) = absurd (none-some g e)
nothing_lives g (inr (inl i)) = absurd i
nothing_lives g (inr (inr i)) = absurd i

pub sound_begun : (limits : Limits) (clocks : Clocks) → Sound limits clocks begun
sound_begun limits clocks = record {
  past = λ g l. nothing_lives g l;
  said_before = λ x i. absurd i;
  short = λ g l. nothing_lives g l;
  lease = λ g e. absurd (none-some g e);
  connected = λ x i. absurd i;
  terms_first = λ e. absurd (cc);
  hello_first = λ e. absurd (cc);
  known_first = λ h. absurd (h refl);
  kept = λ r g l. nothing_lives g l;
  server = record { connected = refl; signs = refl; waiting = refl; hello = refl };
  evicted = λ r g l. nothing_lives g l;
}
