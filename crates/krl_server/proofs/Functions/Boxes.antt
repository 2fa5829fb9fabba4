-- What is sent, one after another.
use Rattle.krl_server.proofs.Names.{◌≡◌, ◌+◌, List, ◌++◌, length, ap, ◌∙◌, append_assoc, arith, length-append, ToClient, Sent, Sends}

pub sends_more : (a b c : Sent) (xs ys : List ToClient) → Sends a b xs → Sends b c ys → Sends a c (xs ++ ys)
sends_more a b c xs ys h k = record {
  sent = k.sent ∙ ap (λ l. l ++ ys) h.sent ∙ append_assoc a.sent xs ys;
  room = let x = h.room in let y = k.room in omega (arith, x, y);
}

pub sends_length : (a b : Sent) (xs : List ToClient) → Sends a b xs → length b.sent ≡ length a.sent + length xs
sends_length a b xs h = ap (λ l. length l) h.sent ∙ length-append a.sent xs
