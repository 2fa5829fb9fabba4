-- A new office.
use Rattle.krl_nodes.proofs.Names.{◌≡◌, ℕ, zero, suc, List, [], ◌∷◌, replicate, Some, None, false, true, refl, sym, ap, ◌∙◌, subst, slice_get, slice_index_or, ToClient, sorted, mail_of, Me, opening}
use Rattle.krl_nodes.proofs.Names.{Value, meaning, node_of, Up, fresh, opened, unused, CanOpen, View, Server, Mail, ServerAt, Holds, ReachableFrom, down_at, first_view, Agreeable, IsNewPost, IsAt}
use Rattle.krl_nodes.proofs.Names.{NoneSeated}
use Rattle.atomic_table.specs.declared.shared.Seat.{Seat as Ticket}
use Rattle.krl_durable.specs.Registers.{Durable}
use Rattle.krl_durable.specs.Kept.{IsKept}
use Rattle.krl_server.specs.Steps.{start}
use Rattle.krl_server.specs.declared.state.State.{State as Kept}
use Rattle.krl_world.specs.declared.node.ServerPlace.{ServerPlace as KeptNode}
use Rattle.krl_world.specs.declared.node.ServerPlace.TheVariants as kept
use Rattle.krl_world.proofs.Functions.Shapes.{first_by_run}
use Rattle.krl_nodes.specs.declared.post.Chair.TheVariants.{Taken, Free}
use Rattle.krl_nodes.proofs.Blanks.{opens}
use Rattle.krl_nodes.proofs.Nodes.{self_view}

abbrev pub new_mail : List (ℕ × Value) → Mail
new_mail o = mail_of o [] (replicate 64 []) [] (replicate 64 (Free 0))

replicate_get : {A : Type 0} (n c : ℕ) (x y : A) → slice_get (replicate n x) c ≡ Some y → x ≡ y
replicate_get zero c x y e = absurd (cc)
replicate_get (suc n) zero x y e = cc
replicate_get (suc n) (suc c) x y e = replicate_get n c x y e

pub nobody_seated : NoneSeated (replicate 64 false)
nobody_seated c e = let is : false ≡ true = replicate_get 64 c false true e in absurd (cc)

-- no client has a letter
no_letter : (n k c i : ℕ) (m : ToClient) → slice_get (slice_index_or (sorted k (replicate n []) []) c []) i ≡ Some m → ⊥
no_letter zero k c i m e = absurd (cc)
no_letter (suc n) k zero i m e = absurd (cc)
no_letter (suc n) k (suc c) i m e = no_letter n (suc k) c i m e

new_post : (o : List (ℕ × Value)) → IsNewPost (new_mail o)
new_post o = record {
  letters = λ sent. record { to_server = λ k m e. absurd (cc); to_clients = λ c k m e. absurd (no_letter 64 0 c k m e) };
  nobody = λ c e. let is : Free 0 ≡ Taken = replicate_get 64 c (Free 0) Taken e in absurd (cc);
  never = λ c i e. let is : Free 0 ≡ Free i = replicate_get 64 c (Free 0) (Free i) e in cc;
}

-- a server can be started on what was made of the entries
pub begun : (entries : List (ℕ × Value)) (d : Durable) → d ≡ unused entries → IsKept d → CanOpen (unused entries)
begun entries d e k = record { kept = subst IsKept e k; starts = refl; left = refl }

fresh_from : (entries : List (ℕ × Value)) → CanOpen (unused entries) → ReachableFrom entries (fresh entries)
unfolding opened
fresh_from entries e = (first_by_run (unused entries) e, refl)

fresh_away : (entries : List (ℕ × Value)) (c : ℕ) → (fresh entries).places c ≡ down_at 0
unfolding opened
fresh_away entries c = refl

-- the server that was started
pub begins : (entries : List (ℕ × Value)) (s : Kept) (d : Durable) → d ≡ unused entries → meaning s ≡ start d → node_of (kept.Up s) ≡ (fresh entries).server
unfolding opened
begins entries s d e f = ap Up (f ∙ ap start e)

pub opens_new : (entries : List (ℕ × Value)) (d : KeptNode) → CanOpen (unused entries) → node_of d ≡ (fresh entries).server → Holds (opening (0 ∷ []) (new_mail entries ∷ []) (first_view entries d))
opens_new entries d e is = opens (new_mail entries) d (fresh entries) (new_post entries) (fresh_from entries e) (sym is) (fresh_away entries)

pub opened_at : (m : Me Mail View) (o entries : List (ℕ × Value)) (d : KeptNode) → CanOpen (unused entries) → node_of d ≡ (fresh entries).server → m ≡ (first_view o d, []) → o ≡ entries → (s : Ticket Mail View) → s.me ≡ m → IsAt s (Server d)
opened_at m o entries d e begun is new s at =
    let all = at ∙ is in record {
      me = self_view s.me o (Server d) None 0 all;
      stands = subst (λ (x : List (ℕ × Value)). Agreeable x (ServerAt (node_of d))) (sym (ap (λ (x : Me Mail View). x.0.opening) all ∙ new)) (fresh entries, fresh_from entries e, sym begun);
    }
