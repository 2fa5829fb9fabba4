-- A server stays sound when it lowers a client or takes its report, and it is sound when it starts.
use Rattle.krl_server.proofs.Names.{◌≡◌, ◌≢◌, ℕ, ◌<◌, Bool, true, false, ◌&&◌, refl, sym, subst, ◌∙◌, arith, ◌≤◌, None, if◌then◌else◌, Mode, meet, Bounds, within, END, In, Pieces, Index, span_of}
use Rattle.krl_server.proofs.Names.{is_slot, Durable, Row, Rows, max_clients, mode_at, with_mode, lowered, rebuilt, adopted, Server, lowers, adopts, IsSound}
use Rattle.krl_table.proofs.Invariant.Compatible.{mode_other}
use Rattle.std.specs.FinMap as map
use Rattle.krl_server.specs.Steps as steps

module _ (m : Index) (rows : Rows) (c : ℕ) (span : Bounds) (keep : Mode) where
  -- each row is lowered, or as it was
  pub low_row : (n : ℕ) (P : Row → Type 0) → (within (span_of m n) span ≡ true → P (with_mode (rows n) c (meet (mode_at rows n c) keep))) → P (rows n) → P (lowered m rows c span keep n)
  low_row n P f g = by_within (is_slot m n) (within (span_of m n) span) f
    where
      by_within : (a b : Bool) → (b ≡ true → P (with_mode (rows n) c (meet (mode_at rows n c) keep))) → P (if a && b then with_mode (rows n) c (meet (mode_at rows n c) keep) else rows n)
      by_within true true h = h refl
      by_within true false h = g
      by_within false b h = g

  pub lowered_others : (d : ℕ) → d ≢ c → (n : ℕ) → mode_at rows n d ≡ mode_at (lowered m rows c span keep) n d
  lowered_others d ne n = low_row n (λ r. mode_at rows n d ≡ r.modes d) (λ w. sym (mode_other (rows n).modes c d (meet (mode_at rows n c) keep) ne)) refl

  pub lowered_queue : (n : ℕ) → (lowered m rows c span keep n).queue ≡ (rows n).queue
  lowered_queue n = low_row n (λ r. r.queue ≡ (rows n).queue) (λ w. refl) refl

pub lowered_sound : (s : Server) (c : ℕ) (span : Bounds) (keep : Mode) → c < max_clients → IsSound s → IsSound (lowers s c span keep)
lowered_sound s c span keep lt i = let m = s.durable.index in record {
  near = i.near;
  begun = i.begun;
  strangers = λ n d ge. sym (lowered_others m s.rows c span keep d (λ e. omega (arith, e, lt, ge)) n) ∙ i.strangers n d ge;
  placed = λ n u at. i.placed n u (subst (In u) (lowered_queue m s.rows c span keep n) at);
  clients = λ n u at. i.clients n u (subst (In u) (lowered_queue m s.rows c span keep n) at);
}

module _ (m : Index) (rows : Rows) (c : ℕ) (pieces : Pieces) where
  -- each row has the client's rebuilt mode, or is as it was
  new_row : (n : ℕ) (P : Row → Type 0) → P (with_mode (rows n) c (rebuilt m pieces n)) → P (rows n) → P (adopted m rows c pieces n)
  new_row n P f g = by_slot (is_slot m n)
    where
      by_slot : (b : Bool) → P (if b then with_mode (rows n) c (rebuilt m pieces n) else rows n)
      by_slot true = f
      by_slot false = g

  pub adopted_others : (d : ℕ) → d ≢ c → (n : ℕ) → mode_at rows n d ≡ mode_at (adopted m rows c pieces) n d
  adopted_others d ne n = new_row n (λ r. mode_at rows n d ≡ r.modes d) (sym (mode_other (rows n).modes c d (rebuilt m pieces n) ne)) refl

  pub adopted_queue : (n : ℕ) → (adopted m rows c pieces n).queue ≡ (rows n).queue
  adopted_queue n = new_row n (λ r. r.queue ≡ (rows n).queue) refl refl

pub adopts_sound : (s : Server) (c : ℕ) (pieces : Pieces) → c < max_clients → IsSound s → IsSound (adopts s c pieces)
adopts_sound s c pieces lt i = let m = s.durable.index in record {
  near = i.near;
  begun = i.begun;
  strangers = λ n d ge. sym (adopted_others m s.rows c pieces d (λ e. omega (arith, e, lt, ge)) n) ∙ i.strangers n d ge;
  placed = λ n u at. i.placed n u (subst (In u) (adopted_queue m s.rows c pieces n) at);
  clients = λ n u at. i.clients n u (subst (In u) (adopted_queue m s.rows c pieces n) at);
}

-- a blank table, if the index is known to end below END
pub start_sound : (d : Durable) → ((q : ℕ) → END ≤ q → map.get d.index q ≡ None) → IsSound (steps.start d)
start_sound d near = record { near = near; begun = omega arith; strangers = λ n c ge. refl; placed = λ n u at. absurd at; clients = λ n u at. absurd at }
