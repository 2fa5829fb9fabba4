-- Memory was refused before the policy was asked.
use Rattle.krl_nodes.proofs.Names.{◌≡◌, ◌<◌, ℕ, length, inr, refl, ap, Err, Refused, ServerPlace, ClientPlace, Mail, letters_to, Picks, ServerAsks, ClientAsks, ServerActsBy, ClientActsBy, Pick, Take}
use Rattle.krl_steps.specs.declared.refused.Refused.TheVariants as refused
use Rattle.krl_nodes.specs.declared.orders.ServerOrder.{ServerOrder}
use Rattle.krl_nodes.specs.declared.orders.ClientOrder.{ClientOrder}
use Rattle.krl_nodes.specs.declared.orders.ServerOrder.TheVariants as to_server
use Rattle.krl_nodes.specs.declared.orders.ClientOrder.TheVariants as to_client

module _ {P : Type 0} (picks : Picks P) (mail : Mail) (q q' : P) (r : Refused) (is : r ≡ refused.OutOfMemory) (same : q' ≡ q) where
  pub server_unasked : (d : ServerPlace) → 0 < length mail.to_server → ServerActsBy picks to_server.Letter mail d q mail d (Err r) q'
  server_unasked d some = (Take 0, inr (ap (λ (e : Refused). Err e) is, same), (inr (refl, is, some), record { post = refl; node = refl }))

  pub client_unasked : (c : ℕ) (x : ClientPlace) → 0 < length (letters_to c mail) → ClientActsBy picks to_client.Letter c mail x q mail x (Err r) q'
  client_unasked c x some = (Take 0, inr (ap (λ (e : Refused). Err e) is, same), (inr (refl, is, some), record { post = refl; node = refl }))

-- the order is for no letter, so the policy is not asked
module _ {P : Type 0} (picks : Picks P) (mail : Mail) (q : P) (p : Pick) where
  pub server_apart : (o : ServerOrder) → (o ≡ to_server.Letter → ⊥) → ServerAsks picks o mail q p q
  server_apart to_server.Letter other = absurd (other refl)
  server_apart (to_server.Nudge c) other = refl
  server_apart to_server.Crash other = refl
  server_apart to_server.Start other = refl

  pub client_apart : (c : ℕ) (o : ClientOrder) → (o ≡ to_client.Letter → ⊥) → ClientAsks picks o c mail q p q
  client_apart c to_client.Letter other = absurd (other refl)
  client_apart c (to_client.Command what) other = refl
  client_apart c to_client.Tick other = refl
  client_apart c to_client.Start other = refl
  client_apart c to_client.Crash other = refl
