-- What a node does, turn by turn.
use Rattle.std.proofs.Common.{◌≡◌, Bool, true, false, refl, sym, ap, subst}
use Rattle.std.specs.Bool.{MatchBool}
use Rattle.krl_nodes.specs.Nodes.{SeatedServer, SeatedClient}
use Rattle.krl_nodes.specs.declared.orders.ClientOrder.TheVariants as client_order
use Rattle.krl_nodes_demo.specs.declared.delivery.Delivery.{Delivery}
use Rattle.krl_nodes_demo.specs.Deliveries.{asked, ServerReadsBy, NudgesByTurns, ServesOnce, Goes, asks, obeys, ClientTicks}

pub served_seed : (b b' : Bool) (d d' : Delivery) (n n' : SeatedServer) → ServesOnce b d n b' d' n' → d'.seed ≡ d.seed
served_seed b b' d d' n n' h = by_lack d.may_lack h
  where
    by_lack : (t : Bool) → MatchBool t (NudgesByTurns b d n b' d' n') ((b' ≡ b) × ServerReadsBy d n d' n') → d'.seed ≡ d.seed
    by_lack true k = ap (λ (x : Delivery). x.seed) k.asked
    by_lack false k = k.1.seed

pub asked_seed : (e e' : Delivery) → e' ≡ asked e → e'.seed ≡ e.seed
asked_seed e e' is = ap (λ (x : Delivery). x.seed) is

module _ (d e e' : Delivery) (n m : SeatedClient) (is : e' ≡ asked e) where
  pub asked_goes : Goes d n e m → Goes d n e' m
  asked_goes h = subst (λ (x : Delivery). Goes d n x m) (sym is) (asks e m h)

  pub ticked_goes : (m' : SeatedClient) → Goes d n e m → ClientTicks m m' → Goes d n e' m'
  ticked_goes m' h t = obeys e' m m' client_order.Tick t.0 (asked_goes h) refl t.1
