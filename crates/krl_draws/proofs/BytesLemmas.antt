-- Values that are drawn.
use Rattle.std.proofs.Common.{◌≡◌, ℕ, suc, ◌+◌, ◌-◌, ◌<◌, ◌≤◌, ◌∙◌, List, [], ◌∷◌, ◌++◌, length, take, set, sym, ap, arith, append_assoc}
use Rattle.std.proofs.lemmas.List.{append-nil, take_more_set}
use Rattle.rand_pcg.specs.Lcg.{Lcg}
use Rattle.krl_draws.specs.Generator as draw

-- what is drawn next comes after the others
pub more_drawn : (len i b : ℕ) (buf : List ℕ) (whole : List ℕ × Lcg) (g h : Lcg) → i < len → i < length buf → (let got : ℕ × Lcg = (b, h) in got) ≡ draw.below 256 g → whole ≡ (take i buf ++ (draw.bytes (len - i) g).0, (draw.bytes (len - i) g).1) →
    whole ≡ (take (i + 1) (set buf i b) ++ (draw.bytes (len - (i + 1)) h).0, (draw.bytes (len - (i + 1)) h).1)
more_drawn len i b buf whole g h below inside drawn was =
    let n = len - (i + 1) in
    let left : len - i ≡ suc n = omega (arith, below) in
    let rest = draw.bytes n h in
    let seen : take i buf ++ b ∷ rest.0 ≡ take (i + 1) (set buf i b) ++ rest.0 =
    sym (ap (λ (xs : List ℕ). xs ++ rest.0) (take_more_set buf i b inside) ∙ append_assoc (take i buf) (b ∷ []) rest.0) in
    was
    ∙ ap (λ (k : ℕ). (let end : List ℕ × Lcg = (take i buf ++ (draw.bytes k g).0, (draw.bytes k g).1) in end)) left
    ∙ ap (λ (d : ℕ × Lcg). (let end : List ℕ × Lcg = (take i buf ++ d.0 ∷ (draw.bytes n d.1).0, (draw.bytes n d.1).1) in end)) (sym drawn)
    ∙ ap (λ (xs : List ℕ). (let end : List ℕ × Lcg = (xs, rest.1) in end)) seen

-- after the last of them nothing is left to draw
pub all_drawn : (len i : ℕ) (buf : List ℕ) (v : List ℕ) (whole : List ℕ × Lcg) (g : Lcg) → i ≤ len → len ≤ i → v ≡ take len buf → whole ≡ (take i buf ++ (draw.bytes (len - i) g).0, (draw.bytes (len - i) g).1) → (let got : List ℕ × Lcg = (v, g) in got) ≡ whole
all_drawn len i buf v whole g most least is drawn =
    let none : len - i ≡ 0 = omega (arith, least) in
    let same : i ≡ len = omega (arith, most, least) in
    let end : whole ≡ (take i buf ++ [], g) = drawn ∙ ap (λ (k : ℕ). (let end : List ℕ × Lcg = (take i buf ++ (draw.bytes k g).0, (draw.bytes k g).1) in end)) none in
    ap (λ (xs : List ℕ). (let got : List ℕ × Lcg = (xs, g) in got)) (is ∙ ap (λ (k : ℕ). take k buf) (sym same) ∙ sym (append-nil (take i buf))) ∙ sym end
