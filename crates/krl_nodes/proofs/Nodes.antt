-- A turn: the post is taken, changed and given back.
use Rattle.krl_nodes.proofs.Names.{◌≡◌, ◌+◌, ℕ, suc, List, [], ◌∷◌, Option, Some, None, sym, ap, ◌∙◌, subst, get_or, Me, Value, Mail, shown, view_of, given_view, joined_view, exchange_of, IsLive, Agreeable}
use Rattle.krl_nodes.proofs.Names.{Took, Change, MayGive, IsAt, HoldsPost, Changes, Exchanged, View}
use Rattle.atomic_table.specs.declared.shared.Seat.{Seat as Ticket}
use Rattle.krl_nodes.specs.declared.view.Exchange.{Exchange}
use Rattle.krl_nodes.specs.declared.view.Node.{Node}

-- after a take the seat holds the post
pub holds_post : (a b : Me Mail View) → a.1 ≡ [] → Took a b → HoldsPost b
holds_post a b free t = (t.0, ap (λ (x : Me Mail View). x.1) t.1 ∙ ap (λ (l : List (ℕ × Mail)). (0, t.0) ∷ l) free)

-- the post that was changed is the one that was taken
held_is : (a b m : Me Mail View) (P : Mail → Mail → Type 0) → Took a b → (ch : Changes b m P) → m.0.held ≡ Some ch.before
held_is a b m P t ch =
    let same : t.0 ≡ ch.before = ap (λ (l : List (ℕ × Mail)). (get_or l 0 (0, ch.before)).1) (sym (ap (λ (x : Me Mail View). x.1) t.1) ∙ ch.had) in
    ap (λ (x : Me Mail View). x.0.held) ch.has ∙ ap (λ (x : Me Mail View). x.0.held) t.1 ∙ ap (λ (x : Mail). Some x) same

node_is : (a b m : Me Mail View) (P : Mail → Mail → Type 0) → Took a b → Changes b m P → m.0.node ≡ a.0.node
node_is a b m P t ch = ap (λ (x : Me Mail View). x.0.node) ch.has ∙ ap (λ (x : Me Mail View). x.0.node) t.1

-- after a take and an order the seat may give the post back as the new node
pub may_give : (a b m : Me Mail View) (n n' : Node) (P : Mail → Mail → Type 0) → a.0.node ≡ n → Took a b → (ch : Changes b m P) → IsLive (shown n) → Change ch.before (shown n) ch.after (shown n') → MayGive m n'
may_give a b m n n' P at t ch live change =
    let node : m.0.node ≡ n = node_is a b m P t ch ∙ at in record {
      taken = ch.before;
      given = ch.after;
      held = held_is a b m P t ch;
      has = ap (λ (x : Me Mail View). x.1) ch.has;
      live = subst (λ (x : Node). IsLive (shown x)) (sym node) live;
      change = subst (λ (x : Node). Change ch.before (shown x) ch.after (shown n')) (sym node) change;
    }

-- what was taken and given back
pub exchanged : (a b m m' : Me Mail View) (n' : Node) (P : Mail → Mail → Type 0) → Took a b → Changes b m P → m' ≡ (given_view m n', []) → Exchanged m'.0.last P
exchanged a b m m' n' P t ch gave = record {
  taken = ch.before;
  given = ch.after;
  last_is = ap (λ (x : Me Mail View). x.0.last) gave ∙ (λ i. exchange_of (held_is a b m P t ch i) (ap (λ (x : Me Mail View). x.1) ch.has i));
  so = ch.so;
}

-- the post was given back again
pub given_once : (a b m m' : Me Mail View) (n' : Node) (P : Mail → Mail → Type 0) → Took a b → Changes b m P → m' ≡ (given_view m n', []) → m'.0.given ≡ suc a.0.given
given_once a b m m' n' P t ch gave = ap (λ (x : Me Mail View). x.0.given) gave ∙ ap (λ (x : Me Mail View). suc x.0.given) ch.has ∙ ap (λ (x : Me Mail View). suc x.0.given) t.1

-- the entries stay
pub same_opening : (a b m m' : Me Mail View) (n' : Node) (P : Mail → Mail → Type 0) → Took a b → Changes b m P → m' ≡ (given_view m n', []) → m'.0.opening ≡ a.0.opening
same_opening a b m m' n' P t ch gave = ap (λ (x : Me Mail View). x.0.opening) gave ∙ ap (λ (x : Me Mail View). x.0.opening) ch.has ∙ ap (λ (x : Me Mail View). x.0.opening) t.1

-- a view that is known names itself
pub self_view : (m : Me Mail View) (o : List (ℕ × Value)) (n : Node) (l : Option Exchange) (g : ℕ) → m ≡ (view_of o n l g, []) → m ≡ (view_of m.0.opening n m.0.last m.0.given, [])
self_view m o n l g is = is ∙ (λ i. (view_of (ap (λ (x : Me Mail View). x.0.opening) (sym is) i) n (ap (λ (x : Me Mail View). x.0.last) (sym is) i) (ap (λ (x : Me Mail View). x.0.given) (sym is) i), []))

-- the seat is the new node
pub is_at : (m m' : Me Mail View) (n' : Node) → m' ≡ (given_view m n', []) → Agreeable m.0.opening (shown n') → (s : Ticket Mail View) → s.me ≡ m' → IsAt s n'
is_at m m' n' gave stands s is =
    let all = is ∙ gave in record {
      me = self_view s.me m.0.opening n' (exchange_of m.0.held m.1) (suc m.0.given) all;
      stands = subst (λ (o : List (ℕ × Value)). Agreeable o (shown n')) (sym (ap (λ (x : Me Mail View). x.0.opening) all)) stands;
    }

-- if nothing of the seat changed
pub at_same : (a b : Ticket Mail View) (n : Node) → IsAt a n → b.me ≡ a.me → IsAt b n
at_same a b n h is = record {
  me = self_view b.me a.me.0.opening n a.me.0.last a.me.0.given (is ∙ h.me);
  stands = subst (λ (o : List (ℕ × Value)). Agreeable o (shown n)) (sym (ap (λ (x : Me Mail View). x.0.opening) is)) h.stands;
}

-- and so it is if it took in a blank seat
pub joined_at : (a b : Ticket Mail View) (n : Node) (w : View) → IsAt a n → b.me ≡ (joined_view a.me.0 w, a.me.1) → IsAt b n
joined_at a b n w h is =
    let node : a.me.0.node ≡ n = ap (λ (x : Me Mail View). x.0.node) h.me in
    let held : a.me.0.held ≡ None = ap (λ (x : Me Mail View). x.0.held) h.me in
    let free : a.me.1 ≡ [] = ap (λ (x : Me Mail View). x.1) h.me in
    let given = a.me.0.given + w.given in
    let all : b.me ≡ (view_of a.me.0.opening n w.last given, []) = is ∙ (λ i. (record { opening = a.me.0.opening; held = held i; node = node i; last = w.last; given = given }, free i)) in record {
      me = self_view b.me a.me.0.opening n w.last given all;
      stands = subst (λ (o : List (ℕ × Value)). Agreeable o (shown n)) (sym (ap (λ (x : Me Mail View). x.0.opening) all)) h.stands;
    }
