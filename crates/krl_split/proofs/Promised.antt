-- What is promised of each part, and over a cut.
use Rattle.krl_split.proofs.Names.{◌≡◌, ℕ, ◌≤◌, ◌<◌, Option, Some, None, inl, inr, refl, ap, ◌∙◌, ⊎_elim, arith, cases_lt, suc, In, Value, Op, op_key, World, Logged, Reachable, begun, stepped, IsCompatible, IsBounded, ScanIsRange, NoAlarm, WritesOnce}
use Rattle.krl_modes.specs.declared.part.RangePart.TheVariants as range
use Rattle.krl_modes.specs.declared.part.KeyPart.TheVariants as key
use Rattle.krl_machine.specs.Links.{Client}
use Rattle.krl_machine.proofs.Runs.{compatible_of, bounded_of, scans_of, no_alarm_of}
use Rattle.krl_split.specs.Parts.{those, ended, settle, part, Parted, whole, moved, IsInside, Keeps, Halves}
use Rattle.krl_split.proofs.Clips.{choose_in, choose_out, of_those, in_those}
use Rattle.krl_split.proofs.Cut.{parted_inv}
use Rattle.krl_split.proofs.Written.{parted_history}
use Rattle.krl_machine.proofs.Writes.{writes_of}

pub parted_compatible : (end : ℕ) (index : ℕ → Option Value) (lo hi : ℕ) (w : World) → Parted end index lo hi w → IsCompatible w
parted_compatible end index lo hi w p = compatible_of w (parted_inv end index lo hi w p)

pub parted_bounded : (end : ℕ) (index : ℕ → Option Value) (lo hi : ℕ) (w : World) → Parted end index lo hi w → IsBounded w
parted_bounded end index lo hi w p = bounded_of w (parted_inv end index lo hi w p)

pub parted_scans : (end : ℕ) (index : ℕ → Option Value) (lo hi : ℕ) (w : World) → Parted end index lo hi w → ScanIsRange w
parted_scans end index lo hi w p = scans_of w (parted_inv end index lo hi w p)

pub parted_alarms : (end : ℕ) (index : ℕ → Option Value) (lo hi : ℕ) (w : World) → Parted end index lo hi w → NoAlarm w
parted_alarms end index lo hi w p = no_alarm_of w (parted_inv end index lo hi w p)

pub parted_once : (end : ℕ) (index : ℕ → Option Value) (lo hi : ℕ) (w : World) → Parted end index lo hi w → WritesOnce index w
parted_once end index lo hi w p = writes_of index w (parted_history end index lo hi w p)

-- each reachable world is one part
pub reachable_parted : (index : ℕ → Option Value) (end : ℕ) (w : World) → Reachable index end w → Parted end index 0 (suc end) w
reachable_parted index end w begun = whole index
reachable_parted index end w (stepped u v r step) = moved index 0 (suc end) u v (reachable_parted index end u r) step

-- Over a cut

settle_same : (lo hi : ℕ) (o : Option Op) (c : Client) → IsInside lo hi o → settle lo hi o c ≡ c
settle_same lo hi None c inside = refl
settle_same lo hi (Some op) c inside = let x = inside op refl in choose_in lo hi (op_key op) c (ended c) x.0 x.1

pub part_keeps : (lo hi : ℕ) (w : World) → Keeps lo hi w (part lo hi w)
part_keeps lo hi w c inside q low high =
    let same : settle lo hi (w.links c).client.out (w.links c).client ≡ (w.links c).client = settle_same lo hi (w.links c).client.out (w.links c).client inside in (
      choose_in lo hi q ((settle lo hi (w.links c).client.out (w.links c).client).range q) range.N low high ∙ ap (λ (x : Client). x.range q) same,
      choose_in lo hi q ((settle lo hi (w.links c).client.out (w.links c).client).key q) key.N low high ∙ ap (λ (x : Client). x.key q) same,
      ap (λ (x : Client). x.value q) same,
      ap (λ (x : Client). x.out) same,
      ap (λ (x : Client). x.inc) same,
    )

pub halves : (lo at hi : ℕ) (w : World) → Halves lo at hi w (part lo at w) (part at hi w)
halves lo at hi w = record {
  below = λ q a b. (choose_in lo at q (w.shared.index q) None a b, choose_out at hi q (w.shared.index q) None (inl b));
  above = λ q a b. (choose_in at hi q (w.shared.index q) None a b, choose_out lo at q (w.shared.index q) None (inr a));
  logged = λ e m a b. ⊎_elim
      (λ (c : op_key e.wrote.op < at). inl (in_those lo at (λ x. op_key x.wrote.op) w.log e m a c, λ h. let z = of_those at hi (λ x. op_key x.wrote.op) w.log e h in omega (arith, z.1, c)))
      (λ (c : at ≤ op_key e.wrote.op). inr (in_those at hi (λ x. op_key x.wrote.op) w.log e m c b, λ h. let z = of_those lo at (λ x. op_key x.wrote.op) w.log e h in omega (arith, z.2, c)))
      (cases_lt (op_key e.wrote.op) at);
  no_more = λ e h. ⊎_elim (λ (a : In e (those lo at (λ (x : Logged). op_key x.wrote.op) w.log)). (of_those lo at (λ x. op_key x.wrote.op) w.log e a).0)
      (λ (a : In e (those at hi (λ (x : Logged). op_key x.wrote.op) w.log)). (of_those at hi (λ x. op_key x.wrote.op) w.log e a).0) h;
}
