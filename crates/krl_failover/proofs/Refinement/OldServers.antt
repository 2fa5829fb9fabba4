-- Whatever an old server does, the store's server and all other old ones show as before.
use Rattle.krl_failover.proofs.Refinement.Names.{◌≡◌, ◌≢◌, ℕ, ◌<◌, ◌≤◌, ◌⊎◌, inl, inr, ⊎_elim, Bool, true, false, Option, Value, Some, None, List, [], ◌∷◌, if◌then◌else◌, nat_eq, refl, sym, ap, subst, ◌∙◌, arith, END, In}
use Rattle.krl_failover.proofs.Refinement.Names.{in_both, RangePart, KeyPart, PushBody, ToClient, Waiter, Record, record_of, Shared, Link, Serving, Recovering, Logged, Server, is_recovering, lists, Session, epoch_to}
use Rattle.krl_failover.proofs.Refinement.Names.{IsSound, WasSent, Stands, Grows, sent_stays, Fenced, IsHere, FencedReachable, CountsAre, IsBlankRow, ShowsOld}
use Rattle.std.proofs.lemmas.Bool.{cases_lt}
use Rattle.krl_messages.specs.declared.to_client.ToClientBody.TheVariants as told
use Rattle.krl_durable.specs.Index.{slots}
use Rattle.krl_machine.proofs.Links.{not_both}
use Rattle.krl_server.specs.Callbacks.{callbacks_for, callbacks_of_among, callbacks_of}
use Rattle.krl_server.specs.Splits.{nudge_known}
use Rattle.krl_server.specs.Steps.{nudge, nudge_served, nudge_missing}
use Rattle.krl_server.proofs.Invariant.Kept.{server_keeps}
use Rattle.krl_refinement.specs.Server.AsLinks.{LinkIs, Shows, view}
use Rattle.krl_refinement.proofs.Server.Follows.{record_kept}
use Rattle.krl_refinement.proofs.Server.Callbacks.{callbacks_for_sent}
use Rattle.krl_failover.proofs.Machine.Reached.{fenced_inv}
use Rattle.krl_failover.specs.Follows.{Mirrors}
use Rattle.krl_failover.specs.OldServers.{OldFollows, OldFollow}
use Rattle.krl_failover.proofs.Refinement.Stores.{reached_on}
use Rattle.krl_failover.proofs.Refinement.Beside.{Beside, store_part, SameRow}
use Rattle.krl_failover.proofs.Refinement.OldMoves.{Goes, goes_not, tells}
use Rattle.krl_failover.proofs.Refinement.OldSteps.{repeats, step_goes}

-- The store's server

not_left : (b : Bool) → b ≡ true → b ≡ false → ⊥
not_left b x y = absurd (cc)

link_beside : (s : Shared) (o : Option Record) (b : Bool) (session : Session) (r : ℕ → RangePart) (k : ℕ → KeyPart) (l m : Link) → store_part m ≡ store_part l → Grows l m → (s.phase ≡ Serving → SameRow l m) → LinkIs s o b session r k l → LinkIs s o b session r k m
link_beside s o b session r k l m e g rows h = record {
  known = record_kept o l m (ap (λ x. x.reg) e) (ap (λ x. x.left) e) (ap (λ x. x.done) e) (ap (λ x. x.applied) e) h.known;
  missing = ap (λ x. x.missing) e ∙ h.missing;
  last_push = ap (λ x. x.last_push) e ∙ h.last_push;
  acked = ap (λ x. x.acked) e ∙ h.acked;
  unacked = λ body i. subst (λ n. WasSent m n (told.Push s.epoch session.last_push body)) (sym (ap (λ x. x.reg) e)) (sent_stays l m g l.reg (told.Push s.epoch session.last_push body) (h.unacked body i));
  range = λ p q. ap (λ x. x q) (rows p).0 ∙ h.range p q;
  key = λ p q. ap (λ x. x q) (rows p).1 ∙ h.key p q;
  new_range = λ p q. ap (λ x. x.new_range q) e ∙ h.new_range p q;
  new_key = λ p q. ap (λ x. x.new_key q) e ∙ h.new_key p q;
}

-- while the store's server serves, its table is the bound, and no old server changes that
serving_rows : (e : ℕ) (f g : Fenced) → Beside e f g → e < f.world.shared.epoch → ((f.world.shared.phase ≡ Serving) × (f.bound ≡ f.world.shared.epoch)) ⊎ ((f.world.shared.phase ≡ Recovering) × (f.bound < f.world.shared.epoch)) → f.world.shared.phase ≡ Serving → (c : ℕ) → SameRow (f.world.links c) (g.world.links c)
serving_rows e f g b lt (inr p) serving c = absurd (not_both serving p.0)
serving_rows e f g b lt (inl p) serving c = by_bound b.bound
  where
    by_bound : (g.bound ≡ f.bound) ⊎ ((f.bound < e) × (g.bound ≡ e)) → SameRow (f.world.links c) (g.world.links c)
    by_bound (inl same) = b.still (λ x. omega (arith, x, p.1, lt)) same c
    by_bound (inr x) = absurd (omega (arith, x.0, p.1, lt))

pub mirrors_beside : (first : ℕ → Option Value) (e : ℕ) (f g : Fenced) (store : Server) (of : ℕ → Link) (log : List Logged) → Mirrors first f store of log → Beside e f g → e < f.world.shared.epoch → FencedReachable first END g → Mirrors first g store g.world.links log
mirrors_beside first e f g store of log h b lt reached =
    let links : f.world.links ≡ of = ap (λ w. w.links) h.world in
    let shared : f.world.shared ≡ view store = ap (λ w. w.shared) h.world in
    let shows : Shows store f.world.links = subst (Shows store) (sym links) h.shows in
    let shared_g = b.shared ∙ shared in
    let log_g = b.log ∙ ap (λ w. w.log) h.world in
    let rows = serving_rows e f g b lt (fenced_inv first END f h.reached).phase in
    record {
      reached = reached;
      world = λ t. record { shared = shared_g t; links = g.world.links; log = log_g t };
      shows = record {
        link = λ c. link_beside (view store) _ _ _ _ _ (f.world.links c) (g.world.links c) (b.part c) (b.grows c) (λ p. rows (ap (λ x. x.phase) shared ∙ p) c) (shows.link c);
        heard = λ n u at. let x = shows.heard n u at in (x.0, (b.grows u.client).heads x.0 x.1, x.2 ∙ sym (ap (λ y. y.reg) (b.part u.client)), x.3, ap (λ y. y.left) (b.part u.client) ∙ x.4);
      };
      sound = h.sound;
      empty = h.empty;
      -- an old server leaves the bound of the clients that have left
      blank = λ c left q.
          let before : (f.world.links c).left ≡ true = sym (ap (λ x. x.left) (b.part c)) ∙ left in
          let rows_c = b.gone c (λ x. absurd (not_left (f.world.links c).left before x.1)) in
          let p = subst (λ k. (k c).left ≡ true → IsBlankRow (k c)) (sym links) (h.blank c) before q in
          (ap (λ k. k q) rows_c.0 ∙ p.0, ap (λ k. k q) rows_c.1 ∙ p.1);
    }

-- The other old servers

module _ (first : ℕ → Option Value) (e : ℕ) (f g : Fenced) (reached : FencedReachable first END f) (b : Beside e f g) (begun : 1 ≤ e) (x : Server) (ne : x.durable.epoch ≢ e) (h : ShowsOld x f) where
  abbrev y : ℕ
  y = x.durable.epoch

  same : (c : ℕ) → g.old y c ≡ f.old y c
  same c = b.old y c ne

  here_then : (c : ℕ) → IsHere (g.world.links c) (g.old y c) → IsHere (f.world.links c) (f.old y c)
  here_then c k = (sym (ap (λ z. z.reg) (same c)) ∙ k.0 ∙ ap (λ z. z.reg) (b.part c), sym (ap (λ z. z.left) (b.part c)) ∙ k.1)

  here_now : (c : ℕ) → IsHere (f.world.links c) (f.old y c) → IsHere (g.world.links c) (g.old y c)
  here_now c k = (ap (λ z. z.reg) (same c) ∙ k.0 ∙ sym (ap (λ z. z.reg) (b.part c)), ap (λ z. z.left) (b.part c) ∙ k.1)

  was_bound : y ≡ g.bound → (y ≡ f.bound) × (g.bound ≡ f.bound)
  was_bound is = by_bound b.bound
    where
      by_bound : (g.bound ≡ f.bound) ⊎ ((f.bound < e) × (g.bound ≡ e)) → (y ≡ f.bound) × (g.bound ≡ f.bound)
      by_bound (inl p) = (is ∙ p, p)
      by_bound (inr p) = absurd (ne (is ∙ p.1))

  was_low : g.bound < y → f.bound < y
  was_low lt = ⊎_elim (λ (p : g.bound ≡ f.bound). omega (arith, p, lt)) (λ (p : (f.bound < e) × (g.bound ≡ e)). omega (arith, p.0, p.1, lt)) b.bound

  -- a client that is gone from a later one's view is gone from an earlier one's
  gone_before : (c : ℕ) → e < y → (IsHere (f.world.links c) (f.old y c) → ⊥) → IsHere (f.world.links c) (f.old e c) → ⊥
  gone_before c lt out k =
      let v = fenced_inv first END f reached in
      let low = v.mono e y c begun lt h.old in
      let high = (v.old y c (omega (arith, begun, lt)) h.old).reg in
      out (omega (arith, low, high, k.0), k.1)

  blank_then : g.bound < y → (c : ℕ) → (IsHere (f.world.links c) (f.old y c) → ⊥) → SameRow (f.world.links c) (g.world.links c)
  blank_then lt c out = ⊎_elim
      (λ (up : e < y). b.gone c (gone_before c up out))
      (λ (down : y ≤ e). ⊎_elim
      (λ (p : g.bound ≡ f.bound). b.still (λ is. omega (arith, is, p, lt, down)) p c)
      (λ (p : (f.bound < e) × (g.bound ≡ e)). absurd (omega (arith, p.1, lt, down)))
      b.bound)
      (cases_lt e y)

  pub other_stays : ShowsOld x g
  other_stays = record {
    old = subst (λ z. y < z.epoch) (sym b.shared) h.old;
    copy = ap (λ k. k y) b.copy ∙ h.copy;
    link = λ c. let k = h.link c in subst (CountsAre y (record_of x.durable.register c) (x.sessions c) (g.world.links c)) (sym (same c))
        (record { known = k.known; last = k.last; acked = k.acked; unacked = λ body is. sent_stays (f.world.links c) (g.world.links c) (b.grows c) (f.old y c).reg (told.Push y (x.sessions c).last_push body) (k.unacked body is) });
    heard = λ n u at. let k = h.heard n u at in (k.0, (b.grows u.client).heads k.0 k.1, k.2 ∙ sym (ap (λ z. z.reg) (same u.client)), k.3);
    serves = λ is. h.serves (was_bound is).0;
    rows = λ is c.
        let was = was_bound is in
        let r = h.rows was.0 c in
        let rows = b.still (λ z. ne (was.0 ∙ sym z)) was.1 c in
        record {
          here = λ k q. let p = r.here (here_then c k) q in (ap (λ z. z q) rows.0 ∙ p.0, ap (λ z. z q) rows.1 ∙ p.1);
          gone = λ out q. let p = r.gone (λ k. out (here_now c k)) q in (ap (λ z. z q) rows.0 ∙ p.0, ap (λ z. z q) rows.1 ∙ p.1);
        };
    recovers = λ lt. h.recovers (was_low lt);
    rebuilds = λ lt c.
        let r = h.rebuilds (was_low lt) c in
        record {
          missing = ap (λ z. z.missing) (same c) ∙ r.missing;
          new = λ q. (ap (λ z. z.new_range q) (same c) ∙ (r.new q).0, ap (λ z. z.new_key q) (same c) ∙ (r.new q).1);
          gone = λ out q.
              let gone : IsHere (f.world.links c) (f.old y c) → ⊥ = λ k. out (here_now c k) in
              let rows = blank_then lt c gone in
              let p = r.gone gone q in
              (ap (λ z. z q) rows.0 ∙ p.0, ap (λ z. z q) rows.1 ∙ p.1);
        };
  }

-- In the words of the law

follows : (first : ℕ → Option Value) (f : Fenced) (store s t : Server) (of : ℕ → Link) (log : List Logged) (outs : List ToClient) → Mirrors first f store of log → ShowsOld s f → IsSound s → IsSound t → Goes s f (record { server = t; outs = outs }) → OldFollows first f store of log s t outs
follows first f store s t of log outs h old i sound a =
    let links : f.world.links ≡ of = ap (λ w. w.links) h.world in
    record {
      fenced = a.fenced;
      after = a.fenced.world.links;
      steps = a.steps;
      mirrors = mirrors_beside first s.durable.epoch f a.fenced store of log h a.beside old.old (reached_on first END f a.fenced h.reached a.steps);
      shows = a.shows;
      sound = sound;
      sent = a.sent;
      clients = λ c. a.beside.client c ∙ ap (λ k. (k c).client) links;
      grows = λ c. subst (λ k. Grows (k c) (a.fenced.world.links c)) links (a.beside.grows c);
      others = λ x ne k. other_stays first s.durable.epoch f a.fenced h.reached a.beside i.begun x ne k;
    }

-- Nudges

module _ (s : Server) (f : Fenced) (c : ℕ) (begun : 1 ≤ s.durable.epoch) (h : ShowsOld s f) where
  of_sent : (n : ℕ) (us : List Waiter) (o : ToClient) → In o (callbacks_of c s n us) → WasSent (f.world.links o.client) o.incarnation o.body
  of_sent n [] o at = absurd at
  of_sent n (u ∷ us) o at = by_client (nat_eq u.client c) at
    where
      by_client : (b : Bool) → In o (if b then callbacks_for s n u else []) → WasSent (f.world.links o.client) o.incarnation o.body
      by_client true k = callbacks_for_sent s f.world.links begun n u o k
      by_client false k = absurd k

  among_sent : (ns : List ℕ) (o : ToClient) → In o (callbacks_of_among c s ns) → WasSent (f.world.links o.client) o.incarnation o.body
  among_sent [] o at = absurd at
  among_sent (n ∷ ns) o at = ⊎_elim (λ (x : In o (callbacks_of c s n (s.rows n).queue)). of_sent n (s.rows n).queue o x) (λ (x : In o (callbacks_of_among c s ns)). among_sent ns o x) (in_both (callbacks_of c s n (s.rows n).queue) (callbacks_of_among c s ns) o at)

  abbrev Nudged : List ToClient → Type 0
  Nudged outs = Goes s f (record { server = s; outs = outs })

  served : (o : Option PushBody) → (s.sessions c).unacked ≡ o → Nudged (nudge_served s c o)
  served None e = let a = goes_not s s f h in record { fenced = f; steps = a.steps; beside = a.beside; shows = h; sent = among_sent (slots s.durable.index) }
  served (Some body) e = repeats s f c body e h

  waits : (b : Bool) → Nudged (if b then epoch_to s c ∷ [] else [])
  waits true = tells s f c begun h
  waits false = goes_not s s f h

  recovers : (b : Bool) → Nudged (if b then nudge_missing s c else nudge_served s c (s.sessions c).unacked)
  recovers true = waits (lists s.missing c)
  recovers false = served (s.sessions c).unacked refl

  on_left : (b : Bool) → Nudged (if b then [] else (if is_recovering s.missing then nudge_missing s c else nudge_served s c (s.sessions c).unacked))
  on_left true = goes_not s s f h
  on_left false = recovers (is_recovering s.missing)

  known : (o : Option Record) → Nudged (nudge_known s c o)
  known None = goes_not s s f h
  known (Some r) = on_left r.left

  nudge_goes : Nudged (nudge s c)
  nudge_goes = known (record_of s.durable.register c)

pub old_follow : OldFollow
old_follow = record {
  step = λ first f store s t of log m outs h old i at step kept.
      let links : f.world.links ≡ of = ap (λ w. w.links) h.world in
      let here : Stands (f.world.links m.client) m.incarnation m.body = subst (λ k. Stands (k m.client) m.incarnation m.body) (sym links) at in
      follows first f store s t of log outs h old i (server_keeps.sound_step s t m outs i step) (step_goes first s f m h.reached (ap (λ w. w.shared.end) h.world) old i here t outs step kept);
  nudge = λ first f store s of log c h old i. follows first f store s s of log (nudge s c) h old i i (nudge_goes s f c i.begun old);
}
