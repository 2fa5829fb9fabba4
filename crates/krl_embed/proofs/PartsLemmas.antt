-- Rows of parts, one after another.
use Rattle.std.proofs.Common.{◌≡◌, ℕ, ◌+◌, ◌<◌, ◌≤◌, ◌∙◌, List, [], ◌∷◌, ◌++◌, length, get_or, take, drop, map}
use Rattle.std.proofs.Common.{set, sym, ap, subst, arith, add-one, append_assoc, drop-cons, length-take-le}
use Rattle.std.proofs.Common.{Option, Some, None}
use Rattle.std.proofs.Math.Seq.{set-append_seam}
use Rattle.std.proofs.lemmas.List.{length-map, map_push}
use Rattle.std.proofs.lemmas.Grind.{take_at_read}
use Rattle.krl_modes.specs.Spans.{Bounds}
use Rattle.krl_shards.specs.declared.part.Part.{Part}
use Rattle.krl_shards.specs.Parts.{Follow, AreWithin, Ascend, AreAllOf}
use Rattle.krl_embed.specs.declared.shards.PartRow.{PartRow}
use Rattle.krl_embed.specs.declared.code.Code.{Code}
use Rattle.krl_embed.specs.declared.code.Code.TheVariants as code
use Rattle.krl_embed.specs.declared.reply.Reply.{Reply}
use Rattle.krl_embed.specs.Replies.{code_of}
use Rattle.krl_embed.specs.Shards.{AreBounds, ArePartsOf, row_of, CopiesAs, Copies}
use Rattle.krl_embed.specs.Shards.{CopiesParts, TellsPartsAs, TellsParts}

-- one more is copied in front of the old rows
pub copied_one : (found : List Part) (was now : List PartRow) (i : ℕ) (d : Part) (x : PartRow)
    → i < length found → length found ≤ length was → x ≡ row_of (get_or found i d)
    → now ≡ map row_of (take i found) ++ drop i was
    → set now i x ≡ map row_of (take (i + 1) found) ++ drop (i + 1) was
copied_one found was now i d x lt room row seen =
    let front : List PartRow = map row_of (take i found) in
    let long : length front ≡ i = length-map (take i found) row_of ∙ length-take-le i found (omega (arith, lt)) in
    let split : drop i was ≡ get_or was i x ∷ drop (i + 1) was = drop-cons was i x (omega (arith, lt, room))
    ∙ ap (λ (k : ℕ). get_or was i x ∷ drop k was) (sym (add-one i)) in
    let at : set (front ++ get_or was i x ∷ drop (i + 1) was) i x ≡ front ++ x ∷ drop (i + 1) was =
    subst (λ (n : ℕ). set (front ++ get_or was i x ∷ drop (i + 1) was) n x ≡ front ++ x ∷ drop (i + 1) was) long
    (set-append_seam front (get_or was i x) (drop (i + 1) was) x) in
    let grown : map row_of (take (i + 1) found) ≡ front ++ x ∷ [] =
    ap (map row_of) (take_at_read found i d lt).1 ∙ map_push row_of (take i found) (get_or found i d)
    ∙ ap (λ (y : PartRow). front ++ y ∷ []) (sym row) in
    ap (λ (l : List PartRow). set l i x) (seen ∙ ap (λ (l : List PartRow). front ++ l) split) ∙ at
    ∙ sym (ap (λ (l : List PartRow). l ++ drop (i + 1) was) grown ∙ append_assoc front (x ∷ []) (drop (i + 1) was))

-- what is copied is what is reported
tells_as : (bounds : List ℕ) (s : Bounds) (ps : List Part) (was now : List PartRow) (r : Reply) (o : Option Code)
    → CopiesParts bounds s was now r → CopiesAs ps was now o → TellsPartsAs bounds s was now r o
tells_as bounds s ps was now r None h c = absurd c
tells_as bounds s ps was now r (Some code.Done) h c = h
tells_as bounds s ps was now r (Some code.TooShort) h c = h
tells_as bounds s ps was now r (Some _) h c = absurd c

pub tells : (bounds shards : List ℕ) (s span : Bounds) (ps : List Part) (was now : List PartRow) (r : Reply)
    → shards ≡ bounds → span ≡ s → AreBounds bounds
    → Follow shards span.hi span.lo span.hi ps → AreWithin shards span ps → Ascend ps → AreAllOf span ps
    → Copies ps was now r → TellsParts bounds s was now r
tells bounds shards s span ps was now r same is h follow within ascend all copied =
    let found : ArePartsOf shards span ps = record { follow = follow; within = within; ascend = ascend; all = all } in
    let at : ArePartsOf bounds s ps =
    subst (λ (bs : List ℕ). ArePartsOf bs s ps) same (subst (λ (t : Bounds). ArePartsOf shards t ps) is found) in
    tells_as bounds s ps was now r (code_of r) (h, (ps, at, copied)) copied.1
