-- What clients believe and live pushes lie within the bound of each run, and no message has an epoch above the durable one.
use Rattle.krl_world.proofs.Names.{◌≡◌, ℕ, suc, ◌≤◌, ◌<◌, ◌&&◌, Bool, true, false, nat_le, nat_lt, inl, inr, Option, Some, None, List, [], ◌∷◌, refl, sym, ap, subst, ◌∙◌, arith, if◌then◌else◌}
use Rattle.krl_world.proofs.Names.{RangePart, KeyPart, key_of, Holding, ToServer, ToClient, PushBody, RangeAtMost, KeyAtMost, Link, Logged, ranges_by_table, keys_by_table, AllByRecursion, nat_tests}
use Rattle.krl_world.proofs.Names.{In, in_to_all, push_of, push_with, IsTold, Stands, WasSent, IsWhole, Client, ShowsClient, ShowsPlace, ServerPlace, Up, Down, State, durable_of, index_of, client_of}
use Rattle.krl_world.proofs.Names.{range_believed, key_believed, Bound, IsRangeWithin, IsKeyWithin, IsHoldingWithin, IsPushWithin, IsBounded, epoch_said, epoch_told, push_epoch}
use Rattle.krl_modes.specs.declared.part.KeyPart.TheVariants as key
use Rattle.krl_modes.proofs.SpanLaws.{inside_span}
use Rattle.krl_messages.specs.declared.to_server.ToServerBody.{ToServerBody}
use Rattle.krl_messages.specs.declared.to_server.ToServerBody.TheVariants as said
use Rattle.krl_messages.specs.declared.to_client.ToClientBody.{ToClientBody}
use Rattle.krl_messages.specs.declared.to_client.ToClientBody.TheVariants as told
use Rattle.krl_messages.specs.declared.to_client.PushBody.TheVariants as push
use Rattle.krl_machine.specs.Links as links
use Rattle.krl_machine.specs.Worlds as machine
use Rattle.krl_messages.specs.Ascending.{IsBefore, Ascend}
use Rattle.krl_machine.specs.Holdings.{said_at, or_by, said_by}
use Rattle.krl_machine.proofs.Holdings.{says_here}
use Rattle.krl_world.specs.declared.message.Message.TheVariants as message
use Rattle.krl_world.proofs.Refinement.Calling.{epoch_called}
use Rattle.krl_world.proofs.Refinement.Mirrors.{machine_of, shared_of, Mirrors}
use Rattle.krl_world.proofs.Refinement.Reached.{HaveBound}

-- The machine's inequalities, as tables of the bound

pub range_within : (r r' top top' : RangePart) → r ≡ r' → top' ≡ top → RangeAtMost r' top' → IsRangeWithin r top
range_within r r' top top' e f h = subst (λ x. IsRangeWithin x top) (sym e) (subst (IsRangeWithin r') f ((ranges_by_table r' top').1 h))

pub key_within : (k k' top top' : KeyPart) → k ≡ k' → top' ≡ top → KeyAtMost k' top' → IsKeyWithin k top
key_within k k' top top' e f h = subst (λ x. IsKeyWithin x top) (sym e) (subst (IsKeyWithin k') f ((keys_by_table k' top').1 h))

-- What clients believe

held_range : (c p : ℕ) (o : Option Client) (g : ℕ) (l : Link) (b : Bound) → ShowsPlace c g o l → l.top_range p ≡ b.range_at c p → RangeAtMost (l.range p) (l.top_range p) → IsRangeWithin (range_believed o p) (b.range_at c p)
held_range c p None g l b h e x = refl
held_range c p (Some k) g l b h e x = range_within _ _ _ _ (h.1.range p) e x

held_key : (c p : ℕ) (o : Option Client) (g : ℕ) (l : Link) (b : Bound) → ShowsPlace c g o l → l.top_key p ≡ b.key_at c p → KeyAtMost (l.key p) (l.top_key p) → IsKeyWithin (key_believed o p) (b.key_at c p)
held_key c p None g l b h e x = refl
held_key c p (Some k) g l b h e x = key_within _ _ _ _ (h.1.key p) e x

-- Live pushes

-- what several holdings state of a point in the span of one of them, if no point lies in two

outside_span : (lo hi q : ℕ) → q < lo → (nat_le lo q && nat_lt q hi) ≡ false
outside_span lo hi q lt = grind (arith, nat_tests)

pub within_span : (lo hi q : ℕ) → lo ≤ q → q < hi → (nat_le lo q && nat_lt q hi) ≡ true
within_span lo hi q a b = grind (arith, nat_tests)

none_later : (h : Holding) (hs : List Holding) → IsBefore h hs → Ascend hs → AllByRecursion (λ k. IsWhole k.span) hs → (q : ℕ) → q < h.span.hi → said_by hs q ≡ None
none_later h [] b up w q lt = refl
none_later h (k ∷ ks) b up w q lt =
    let some = w.0 in
    ap (λ o. or_by o k q) (none_later k ks up.0 up.1 w.1 q (omega (arith, lt, b, some)))
    ∙ ap (λ t. if t then Some (said_at k q) else None) (outside_span k.span.lo k.span.hi q (omega (arith, lt, b)))

says_each : (hs : List Holding) (h : Holding) → In h hs → Ascend hs → AllByRecursion (λ k. IsWhole k.span) hs → (q : ℕ) → h.span.lo ≤ q → q < h.span.hi → said_by hs q ≡ Some (said_at h q)
says_each [] h at up w q a b = absurd at
says_each (k ∷ ks) h (inl e) up w q a b = subst (λ x. said_by (k ∷ ks) q ≡ Some (said_at x q)) (sym e)
    (ap (λ o. or_by o k q) (none_later k ks up.0 up.1 w.1 q (subst (λ x. q < x.span.hi) e b))
    ∙ ap (λ t. if t then Some (said_at k q) else None) (within_span k.span.lo k.span.hi q (subst (λ x. x.span.lo ≤ q) e a) (subst (λ x. q < x.span.hi) e b)))
says_each (k ∷ ks) h (inr at) up w q a b = ap (λ o. or_by o k q) (says_each ks h at up.1 w.1 q a b)

holding_within : (w : State) (of : ℕ → Link) (log : List Logged) (b : Bound) (c : ℕ) (k : Client) (answers : ℕ) (applied : Bool) (hs : List Holding) (h : Holding) → HaveBound of b → machine.Restarts (machine_of w.server of log) → ShowsClient c k (of c).client → In (push_with k.incarnation k.epoch (suc k.seen) answers applied hs) (of c).pushes → ((q : ℕ) → h.span.lo ≤ q → q < h.span.hi → said_by hs q ≡ Some (said_at h q)) → IsHoldingWithin b c h
holding_within w of log b c k answers applied hs h have r s at says = record {
  range = λ p i. let x = inside_span h.span p i in range_within _ _ _ _ refl (have c p).0 (r.live c _ at live p (said_at h p) (says p x.0 x.1)).0;
  key = λ p i last. let x = inside_span h.span p i in
      key_within _ _ _ _ refl (have c p).1 (subst (λ b. KeyAtMost (if b then key_of h.mode else key.N) ((of c).top_key p)) last (r.live c _ at live p (said_at h p) (says p x.0 x.1)).1);
}
  where
    live : links.IsLive (of c) (push_with k.incarnation k.epoch (suc k.seen) answers applied hs)
    live = record { up = s.up; inc = sym s.inc; epoch = sym s.epoch; number = ap suc (sym s.seen) }

push_within : (w : State) (of : ℕ → Link) (log : List Logged) (b : Bound) (c : ℕ) (k : Client) (body : PushBody) → HaveBound of b → machine.Restarts (machine_of w.server of log) → ShowsClient c k (of c).client → In (push_of k.incarnation k.epoch (suc k.seen) body) (of c).pushes → IsTold body → IsPushWithin b c body
push_within w of log b c k (push.Grant req hs) have r s at told = in_to_all (IsHoldingWithin b c) hs (λ h i. holding_within w of log b c k 0 false hs h have r s at (says_each hs h i told.0 told.1))
push_within w of log b c k (push.Absent req point) have r s at told = tt
push_within w of log b c k (push.Answer number o h) have r s at told = holding_within w of log b c k number _ (h ∷ []) h have r s at (λ q x y. says_here h q x y)

pub bounded_world : (w : State) (of : ℕ → Link) (log : List Logged) (b : Bound) → Mirrors w of log → b.index ≡ index_of w → HaveBound of b → machine.IsBounded (machine_of w.server of log) → machine.Restarts (machine_of w.server of log) → IsBounded w b
bounded_world w of log b m same have low r = record {
  index = same;
  held_range = λ c p. held_range c p (client_of w c) (w.places c).last_incarnation (of c) b (m.places c) (have c p).0 (low c p).0;
  held_key = λ c p. held_key c p (client_of w c) (w.places c).last_incarnation (of c) b (m.places c) (have c p).1 (low c p).1;
  live = λ c k body up at.
      let place : ShowsPlace c (w.places c).last_incarnation (Some k) (of c) = subst (λ x. ShowsPlace c (w.places c).last_incarnation x (of c)) up (m.places c) in
      push_within w of log b c k body have r place.1 (m.to _ at).0 (m.to _ at).2;
}

-- Epochs

pub epoch_is : (n : ServerPlace) → (shared_of n).epoch ≡ (durable_of n).epoch
epoch_is (Up s) = refl
epoch_is (Down d) = refl

said_low : (l : Link) (inc n : ℕ) (b : ToServerBody) → ((x : links.Report) → In x l.reports → x.epoch ≤ n) → ((x : links.Head) → In x l.heads → x.epoch ≤ n) → Stands l inc b → epoch_said b ≤ n
said_low l inc n said.Hello reports heads h = omega arith
said_low l inc n said.Bye reports heads h = omega arith
said_low l inc n (said.Report epoch pieces) reports heads h = reports _ h.0
said_low l inc n (said.Request r) reports heads h = heads _ h.0

pub said_world : (w : State) (of : ℕ → Link) (log : List Logged) → Mirrors w of log → machine.Restarts (machine_of w.server of log) → (m : ToServer) → In (message.ToServer m) w.sent → epoch_said m.body ≤ (durable_of w.server).epoch
said_world w of log h r m at = subst (λ n. epoch_said m.body ≤ n) (epoch_is w.server) (said_low (of m.client) m.incarnation _ m.body (r.report_epochs m.client) (r.head_epochs m.client) (h.from m at))

told_low : (l : Link) (inc n : ℕ) (b : ToClientBody) → ((x : links.Push) → In x l.pushes → x.epoch ≤ n) → ((x : links.Notice) → In x l.notices → x.epoch ≤ n) → epoch_called b ≤ n → WasSent l inc b → epoch_told b ≤ n
told_low l inc n (told.Epoch epoch) pushes notices low h = notices _ h
told_low l inc n (told.Push epoch number b) pushes notices low h = subst (λ e. e ≤ n) (push_epoch inc epoch number b) (pushes _ h.0)
told_low l inc n (told.Callback epoch s keep) pushes notices low h = low

pub told_world : (w : State) (of : ℕ → Link) (log : List Logged) → Mirrors w of log → machine.Restarts (machine_of w.server of log) → (m : ToClient) → In (message.ToClient m) w.sent → epoch_told m.body ≤ (durable_of w.server).epoch
told_world w of log h r m at = let e = epoch_is w.server in
    told_low (of m.client) m.incarnation _ m.body (λ x i. let y = r.push_epochs m.client x i in omega arith) (λ x i. let y = r.notice_epochs m.client x i in omega arith) (h.called m at) (h.to m at)
