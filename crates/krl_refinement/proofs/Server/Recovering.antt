-- A change that takes a client out of the missing, and perhaps ends the recovery.
use Rattle.krl_refinement.proofs.Names.{◌≡◌, ℕ, Bool, Option, Some, None, List, [], ◌∷◌, refl, subst, ToClient, ToClientBody, In, Waiter, Record, record_of, range_at, key_at, Link, LinkSteps, Logged}
use Rattle.krl_refinement.proofs.Names.{Steps, more, finish, put, put_changed, link_steps, Server, is_recovering, lists, unlist, not_both, WasSent, IsRecord, LinkIs, IsHeardOf, machine_phase}
use Rattle.krl_refinement.proofs.Names.{view_of, view, world_of, BoundStays}
use Rattle.krl_messages.specs.declared.to_client.ToClientBody.TheVariants as told
use Rattle.krl_machine.specs.Links as links
use Rattle.krl_refinement.proofs.Server.Follows.{Goes, put_client}

abbrev pub with_missing : Server → List ℕ → Server
with_missing s ms = record s { missing = ms }

-- what is shown of every client in a phase
abbrev pub ShowsIn : Server → links.Phase → (ℕ → Link) → Type 0
ShowsIn s p of = (d : ℕ) → LinkIs (view_of s.durable p) (record_of s.durable.register d) (lists s.missing d) (s.sessions d) (range_at s.durable.index s.rows d) (key_at s.durable.index s.rows d) (of d)

-- the recovery continues, or the server serves with the rows that it rebuilt
still_recovering : (s t : Server) (ms : List ℕ) (before of : ℕ → Link) (log : List Logged) (cleared : ℕ → Bool) (outs : List ToClient) → ((c : ℕ) → (of c).client ≡ (before c).client) → ((c : ℕ) → BoundStays (cleared c) (before c) (of c)) → Steps (world_of s before log) (record { shared = view_of t.durable links.Recovering; links = of; log = log }) → ShowsIn (with_missing t ms) links.Recovering of → ((n : ℕ) (u : Waiter) → In u (t.rows n).queue → IsHeardOf (view t) (of u.client)) → ((o : ToClient) → In o outs → WasSent (of o.client) o.incarnation o.body) → Goes s before log cleared (record { server = with_missing t ms; outs = outs }) log
still_recovering s t [] before of log cleared outs client bound steps shows heard sent = record {
  after = λ c. record (of c) { top_range = (of c).new_range; top_key = (of c).new_key };
  steps = more steps (finish refl (λ c. (shows c).missing));
  shows = record {
    link = λ c. let k = shows c in record { known = known (record_of t.durable.register c) (of c) k.known; missing = k.missing; last_push = k.last_push; acked = k.acked; unacked = k.unacked; range = λ p q. k.new_range refl q; key = λ p q. k.new_key refl q; new_range = λ p q. absurd (cc); new_key = λ p q. absurd (cc) };
    heard = heard;
  };
  sent = λ o at. same (of o.client) o.incarnation o.body (sent o at);
  clients = client;
  bound = λ g. absurd (not_both (is_recovering []) g refl);
}
  where
    known : (o : Option Record) (l : Link) → IsRecord o l → IsRecord o (record l { top_range = l.new_range; top_key = l.new_key })
    known None l h = h
    known (Some r) l h = h

    same : (l : Link) (inc : ℕ) (b : ToClientBody) → WasSent l inc b → WasSent (record l { top_range = l.new_range; top_key = l.new_key }) inc b
    same l inc (told.Epoch epoch) h = h
    same l inc (told.Push epoch number body) h = h
    same l inc (told.Callback epoch span keep) h = h
still_recovering s t (x ∷ xs) before of log cleared outs client bound steps shows heard sent = record { after = of; steps = steps; shows = record { link = shows; heard = heard }; sent = sent; clients = client; bound = λ g. bound }

-- the link of c takes steps to l, and the server takes c out of the missing
pub regroup : (s t : Server) (ms : List ℕ) (c : ℕ) (l : Link) (of : ℕ → Link) (log : List Logged) (cleared : ℕ → Bool) (outs : List ToClient) → view_of s.durable links.Recovering ≡ view_of t.durable links.Recovering → LinkSteps (view_of s.durable (machine_phase ms)) (of c) l → l.client ≡ (of c).client → ((d : ℕ) → BoundStays (cleared d) (of d) (put of c l d)) → ShowsIn (with_missing t (unlist ms c)) (machine_phase ms) (put of c l) → ((n : ℕ) (u : Waiter) → In u (t.rows n).queue → IsHeardOf (view t) (put of c l u.client)) → ((o : ToClient) → In o outs → WasSent (put of c l o.client) o.incarnation o.body) → Goes (with_missing s ms) of log cleared (record { server = with_missing t (unlist ms c); outs = outs }) log
regroup s t [] c l of log cleared outs same steps client bound shows heard sent = record {
  after = put of c l;
  steps = subst (λ x. Steps (world_of (with_missing s []) of log) (record { shared = record x { phase = links.Serving }; links = put of c l; log = log })) same (link_steps (view_of s.durable links.Serving) log c (of c) l of (put of c l) refl steps (put_changed of c l));
  shows = record { link = shows; heard = heard };
  sent = sent;
  clients = put_client of c l client;
  bound = λ g. absurd (not_both (is_recovering []) g refl);
}
regroup s t (x ∷ xs) c l of log cleared outs same steps client bound shows heard sent =
    still_recovering (with_missing s (x ∷ xs)) t (unlist (x ∷ xs) c) of (put of c l) log cleared outs (put_client of c l client) bound
    (subst (λ y. Steps (world_of (with_missing s (x ∷ xs)) of log) (record { shared = y; links = put of c l; log = log })) same (link_steps (view_of s.durable links.Recovering) log c (of c) l of (put of c l) refl steps (put_changed of c l)))
    shows heard sent
