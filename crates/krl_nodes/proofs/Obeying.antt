-- A command, a tick and a start, by what is sent.
use Rattle.krl_nodes.proofs.Names.{◌≡◌, ℕ, suc, List, [], ◌∷◌, ◌++◌, Option, Some, None, inl, inr, ⊎_elim, refl, sym, ap, subst, ◌∙◌, Result, Ok, Err, OnOk, OnErr, IfErr, place_of, Value, ToServer}
use Rattle.krl_nodes.proofs.Names.{ToClient, Answer, Message, Command, Refused, ClientPlace, from_clients, from_server, named, if_runs, command_refusal, CommandNeedsMemory, IsRefused, CommandedAt, Started}
use Rattle.krl_nodes.proofs.Names.{Ticked, starting_refusal, Mail, mail_of, with_said, with_sent, ClientActs, IsSame, HasTicked, did_of, done_if, Pick, Chair}
use Rattle.core.specs.declared.alloc.AllocError.{AllocError}
use Rattle.krl_world.specs.declared.node.ClientPlace.{ClientPlace as KeptClientPlace}
use Rattle.krl_client.specs.Clients.{Client, begun}
use Rattle.krl_client.specs.Ticks.{says_hello}
use Rattle.krl_steps.specs.declared.refused.Refused.TheVariants as refused
use Rattle.krl_steps.specs.Refusals.{refused_by_client}
use Rattle.krl_nodes.specs.declared.orders.ClientOrder.TheVariants as to_client
use Rattle.krl_nodes.proofs.Piles.{said, sent}
use Rattle.krl_nodes.proofs.Says.{sends}

module _ (o : List (ℕ × Value)) (q : List ToServer) (b : List (List ToClient)) (chairs : List Chair) (pile pile' : List Message) where
  abbrev before : Mail
  before = mail_of o q b pile chairs

  abbrev after : Mail
  after = mail_of o q b pile' chairs

  same : pile' ≡ pile → after ≡ before
  same e = ap (λ ms. mail_of o q b ms chairs) e

  says : (list : List ToServer) → pile' ≡ pile ++ from_clients list → after ≡ with_said before list
  says list e = ap (λ ms. mail_of o q b ms chairs) e ∙ said o q b pile chairs list

  pub ticked : (k : Client) (r : Result (Unit {0}) AllocError) → OnOk r (Ticked k pile pile') → OnOk r (HasTicked k before after)
  ticked k (Ok u) t = (t.list, t.tick, says t.list t.sent)
  ticked k (Err e) t = t

  pub nudged : (outs : List ToClient) (r : Result (Unit {0}) AllocError) → OnOk r (pile' ≡ pile ++ from_server outs) → OnOk r (after ≡ with_sent before outs)
  nudged outs (Ok u) t = ap (λ ms. mail_of o q b ms chairs) t ∙ sent o q b pile chairs outs
  nudged outs (Err e) t = t

  pub started : (p : Pick) (c : ℕ) (x x' : KeptClientPlace) (r : Result (Unit {0}) Refused) → OnOk r (Started c (place_of x) (place_of x') pile pile') → IfErr r (IsRefused (starting_refusal c (place_of x)) (Unit {0})) → OnErr r ((x' ≡ x) × (pile' ≡ pile)) → ClientActs p to_client.Start c before (place_of x) after (place_of x') (did_of (done_if r))
  started p c x x' (Ok u) s due e = (s.none_due, record { done = refl; now = s.place; post = says (says_hello (begun c (suc x.last_incarnation)) ∷ []) s.sent })
  started p c x x' (Err r) s due e = (due, record { post = same e.1; node = ap place_of e.0 })

  module _ (p : Pick) (c : ℕ) (what : Command) (x x' : ClientPlace) (g : x'.last_incarnation ≡ x.last_incarnation) where
    abbrev due : Option Client → Option Refused
    due k = if_runs k (λ k. named refused_by_client (command_refusal k what))

    is_same : x'.client ≡ x.client → pile' ≡ pile → IsSame before x after x'
    is_same k l = record { post = same l; node = λ i. record { last_incarnation = g i; client = k i } }

    pub obeys : (r : Result Answer Refused) → CommandedAt x.client what x'.client pile pile' r → ClientActs p (to_client.Command what) c before x after x' (did_of r)
    obeys r h = go x.client r refl h
      where
        go : (k : Option Client) (r : Result Answer Refused) → x.client ≡ k → CommandedAt k what x'.client pile pile' r → ClientActs p (to_client.Command what) c before x after x' (did_of r)
        go None (Ok a) is h = let no = h.0 in absurd (cc)
        go None (Err r) is h = let down : r ≡ refused.Down = cc in (inl (ap due is ∙ ap (λ (e : Refused). Some e) (sym down)), is_same (h.1 ∙ sym is) h.2)
        go (Some k) (Ok a) is h = let s = sends k what a x'.client pile pile' h.1 in (
          ap due is ∙ ap (named refused_by_client) h.0,
          record {
            list = s.list;
            obeyed = subst (λ k. CommandedAt k what x'.client [] (from_clients s.list) (Ok a)) (sym is) (h.0, s.does []);
            last_incarnation = g;
            post = says s.list s.sent;
          },
        )
        go (Some k) (Err r) is h = (
          ⊎_elim
              (λ (e : named refused_by_client (command_refusal k what) ≡ Some r). inl (ap due is ∙ e))
              (λ (t : (named refused_by_client (command_refusal k what) ≡ None) × (r ≡ refused.OutOfMemory) × CommandNeedsMemory k what). inr (ap due is ∙ t.0, t.1, (k, is, t.2)))
              h.2,
          is_same (h.0 ∙ sym is) h.1,
        )
