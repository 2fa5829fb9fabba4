-- Kinds 3, 4 and 5: the post is given back.
use Rattle.krl_nodes.proofs.Names.{◌≡◌, ◌≢◌, ℕ, List, [], ◌∷◌, set, Some, None, inl, ⊎_elim, refl, sym, ap, ◌∙◌, subst, some-injective, dite, ℕ_discrete, get_elem?, eq-eqb, ne_eqb, Me, gives, Allows}
use Rattle.krl_nodes.proofs.Names.{Value, Answer, State, Steps, Chair, View, Mail, Shown, ServerAt, ClientAt, Nobody, Gone, shown, Each, AtHome, IsOut, Sits, IsServer, IsClient, Seated, NamesAs}
use Rattle.krl_nodes.proofs.Names.{Names, Agrees, AllAway, ReachableFrom, Running, Holds, down_at, given_view, IsLive, Agreeable, ServerMoves, ClientMoves, IsMove, Acts, Rests, SitsDown, GetsUp}
use Rattle.krl_nodes.proofs.Names.{Change, MayGive, gave, HasNoMore}
use mathlib.Core.Option as opt
use Rattle.std.specs.Prelude.{Ok, slice_get, nat_eq, if◌then◌else◌}
use Rattle.krl_steps.specs.declared.step.Step.{Step}
use Rattle.krl_world.proofs.Reaching.{by_run}
use Rattle.krl_world.proofs.Functions.Shapes.{opening_left, takes_left, reachable_nobody, step_by_run}
use Rattle.krl_nodes.specs.declared.post.Chair.TheVariants.{Taken, Free}
use Rattle.krl_nodes.specs.declared.view.Node.{Node}
use Rattle.krl_nodes.proofs.Views.{there_set, each_set, has_set_else, seated_set}
use Rattle.krl_nodes.proofs.Chairs.{chair_here, chair_else}
use Rattle.krl_nodes.proofs.Takes.{Goes, running_same}

-- A step keeps the entries that the world began with

pub reaches_on : (opening : List (ℕ × Value)) (w v : State) (s : Step) (a : Answer) → ReachableFrom opening w → Steps w s (Ok a) v → ReachableFrom opening v
unfolding Steps
reaches_on opening w v s a h t = (step_by_run w v s (Ok a) h.0 t, opening_left w v (takes_left w v s a (reachable_nobody w (by_run w h.0)) t) ∙ h.1)

-- The seats of clients by number

put : (ℕ → ℕ) → ℕ → ℕ → ℕ → ℕ
put f c x d = if nat_eq d c then x else f d

put_here : (f : ℕ → ℕ) (c x : ℕ) → put f c x c ≡ x
unfolding put
put_here f c x = ap (λ b. if b then x else f c) (eq-eqb c c refl)

put_else : (f : ℕ → ℕ) (c d x : ℕ) → (d ≡ c → ⊥) → put f c x d ≡ f d
unfolding put
put_else f c d x ne = ap (λ b. if b then x else f d) (ne_eqb d c ne)

-- the views and the post stay a running state, if the view v of the seat id becomes v'
pub record Stays (id : ℕ) (v v' : View) (mail' : Mail) (views : List View) : Type 0 where
  pub at : ℕ → ℕ
  pub world : State
  pub seated : Seated at mail'.chairs (set views id v')
  pub running : Running mail' (set views id v') world
  pub agreeable : Agreeable v.opening (shown v'.node)

abbrev pub Keeps : ℕ → View → Mail → Mail → View → Type 0
Keeps id v mail mail' v' =
    (views : List View) (at : ℕ → ℕ) (w : State) → get_elem? views id ≡ opt.some v → Seated at mail.chairs views → Running mail views w → Stays id v v' mail' views

gives_out : (id : ℕ) (v : View) (mail mail' : Mail) (next : Node) → v.held ≡ Some mail → Keeps id v mail mail' (given_view (v, (0, mail') ∷ []) next) → (views : List View) → get_elem? views id ≡ opt.some v → (at : ℕ → ℕ) (w : State) → Seated at mail.chairs views → Running mail views w
    → Each views (λ i u. i ≢ id → u.held ≡ None) → Goes (v, (0, mail') ∷ []) id (λ _. 0) (λ _. gave next (v, (0, mail') ∷ []) 0) views (1 ∷ []) (opt.none ∷ [])
gives_out id v mail mail' next held k views there at w se ru others =
    let t = k views at w there se ru in
    let v' = given_view (v, (0, mail') ∷ []) next in (
      v',
      gives,
      tt,
      record {
        mail = mail';
        at = t.at;
        world = t.world;
        kept = inl (record { word = refl; slot = refl; none_holds = each_set (λ i u. u.held ≡ None) views id v' (λ j u ne e. others j u e ne) refl });
        seated = t.seated;
        running = t.running;
      },
      (refl, t.agreeable),
    )

pub gives_post : (slots id : ℕ) (v : View) (mail mail' : Mail) (next : Node) → v.held ≡ Some mail → Keeps id v mail mail' (given_view (v, (0, mail') ∷ []) next)
    → Allows Holds slots id (v, (0, mail') ∷ []) 0 (λ _. 0) (λ _. gave next (v, (0, mail') ∷ []) 0)
gives_post slots id v mail mail' next held k s h len there fits =
    let G : List ℕ → List (opt.Option Mail) → Type 0 = Goes (v, (0, mail') ∷ []) id (λ _. 0) (λ _. gave next (v, (0, mail') ∷ []) 0) s.views in
    ⊎_elim
    (λ (a : AtHome s.words s.homes s.views h.mail). let none : v.held ≡ None = a.none_holds id v there in let both : Some mail ≡ None = sym held ∙ none in absurd (cc))
    (λ (o : IsOut s.words s.homes s.views h.mail). dite (ℕ_discrete id o.holder)
    (λ (here : id ≡ o.holder).
    let same : o.view ≡ v = some-injective _ _ (sym o.there ∙ ap (get_elem? s.views) (sym here) ∙ there) in
    let named : Some h.mail ≡ Some mail = sym o.names ∙ ap (λ (u : View). u.held) same ∙ held in
    let is : h.mail ≡ mail = cc in
    subst (λ ws. G ws s.homes) (sym o.word) (subst (G (1 ∷ [])) (sym o.slot) (gives_out id v mail mail' next held k s.views there h.at h.world
    (subst (λ (m : Mail). Seated h.at m.chairs s.views) is h.seated) (subst (λ (m : Mail). Running m s.views h.world) is h.running) (λ j u e ne. o.others j u e (λ x. ne (x ∙ sym here))))))
    (λ ne. let none : v.held ≡ None = o.others id v there ne in let both : Some mail ≡ None = sym held ∙ none in absurd (cc)))
    h.kept

pub named : (n : Shown) (P : Type 0) → IsLive n → NamesAs n P → P
named (ServerAt d) P l p = p
named (ClientAt c q) P l p = p
named Nobody P l p = p
named Gone P l p = absurd l

pub as_named : (n : Shown) (P : Type 0) → P → NamesAs n P
as_named (ServerAt d) P p = p
as_named (ClientAt c q) P p = p
as_named Nobody P p = p
as_named Gone P p = tt

-- the entries that a live view names
opening_of : (v : View) (mail : Mail) → IsLive (shown v.node) → Names mail.opening v → v.opening ≡ mail.opening
opening_of v mail live n = named (shown v.node) (v.opening ≡ mail.opening) live n

agreeable_from : (opening o : List (ℕ × Value)) (w : State) (n : Shown) → o ≡ opening → ReachableFrom opening w → Agrees w n → Agreeable o n
agreeable_from opening o w n is reach agrees = (w, subst (λ (x : List (ℕ × Value)). ReachableFrom x w) (sym is) reach, agrees)

-- kind 4
rests_keeps : (id : ℕ) (v v' : View) (mail mail' : Mail) → IsLive (shown v.node) → v'.opening ≡ v.opening → HasNoMore mail mail' → shown v'.node ≡ shown v.node → Keeps id v mail mail' v'
rests_keeps id v v' mail mail' live same f node views at w there se ru =
    let r = running_same mail views w id v v' there same node ru in record {
      at = at;
      world = w;
      seated = seated_set at mail.chairs mail'.chairs views id v v' there se f.chairs (λ i s. subst (Sits at mail.chairs i) (sym node) s) (λ s. subst IsServer (sym node) s) (λ c s. subst (IsClient c) (sym node) s);
      running = record {
        reach = subst (λ (o : List (ℕ × Value)). ReachableFrom o w) (sym f.opening) r.reach;
        names = subst (λ (o : List (ℕ × Value)). Each (set views id v') (λ i u. Names o u)) (sym f.opening) r.names;
        agree = r.agree;
        away = subst (λ (cs : List Chair). AllAway cs w) (sym f.chairs) r.away;
        letters = f.letters w.sent r.letters;
      };
      agreeable = agreeable_from mail.opening v.opening w (shown v'.node) (opening_of v mail live (ru.names id v there)) ru.reach (subst (Agrees w) (sym node) (ru.agree id v there));
    }

move_agrees : (w : State) (n n' : Shown) (w' : State) → IsMove w n n' w' → Agrees w' n'
move_agrees w n n' w' m =
    ⊎_elim
    (λ (s : ServerMoves w n n' w'). subst (Agrees w') (sym s.3) s.4)
    (λ (s : ClientMoves w n n' w'). subst (Agrees w') (sym s.4) s.6)
    m

move_sits : (at : ℕ → ℕ) (cs : List Chair) (w : State) (n n' : Shown) (w' : State) → IsMove w n n' w' → (i : ℕ) → Sits at cs i n → Sits at cs i n'
move_sits at cs w n n' w' m i h =
    ⊎_elim
    (λ (s : ServerMoves w n n' w'). let h' : Sits at cs i (ServerAt s.0) = subst (Sits at cs i) s.2 h in subst (Sits at cs i) (sym s.3) h')
    (λ (s : ClientMoves w n n' w'). let h' : Sits at cs i (ClientAt s.0 s.1) = subst (Sits at cs i) s.3 h in subst (Sits at cs i) (sym s.4) h')
    m

move_server : (w : State) (n n' : Shown) (w' : State) → IsMove w n n' w' → IsServer n → IsServer n'
move_server w n n' w' m h =
    ⊎_elim
    (λ (s : ServerMoves w n n' w'). (s.1, s.3))
    (λ (s : ClientMoves w n n' w'). let a : ClientAt s.0 s.1 ≡ ServerAt h.0 = sym s.3 ∙ h.1 in absurd (cc))
    m

move_client : (w : State) (n n' : Shown) (w' : State) → IsMove w n n' w' → (c : ℕ) → IsClient c n → IsClient c n'
move_client w n n' w' m c h =
    ⊎_elim
    (λ (s : ServerMoves w n n' w'). let a : ServerAt s.0 ≡ ClientAt c h.0 = sym s.2 ∙ h.1 in absurd (cc))
    (λ (s : ClientMoves w n n' w'). let a : ClientAt s.0 s.1 ≡ ClientAt c h.0 = sym s.3 ∙ h.1 in let same : s.0 ≡ c = cc in (s.2, s.4 ∙ ap (λ k. ClientAt k s.2) same))
    m

other_agrees : (at : ℕ → ℕ) (cs : List Chair) (w : State) (n n' : Shown) (w' : State) → IsMove w n n' w' → (id j : ℕ) → j ≢ id → Sits at cs id n → (m : Shown) → Sits at cs j m → Agrees w m → Agrees w' m
other_agrees at cs w n n' w' mv id j ne mine (ServerAt d) theirs is =
    ⊎_elim
    (λ (s : ServerMoves w n n' w'). let h : id ≡ 0 = subst (Sits at cs id) s.2 mine in absurd (ne (theirs ∙ sym h)))
    (λ (s : ClientMoves w n n' w'). s.5 ∙ is)
    mv
other_agrees at cs w n n' w' mv id j ne mine (ClientAt c p) theirs is =
    ⊎_elim
    (λ (s : ServerMoves w n n' w'). s.5 c ∙ is)
    (λ (s : ClientMoves w n n' w'). let h : Sits at cs id (ClientAt s.0 s.1) = subst (Sits at cs id) s.3 mine in dite (ℕ_discrete c s.0)
    (λ (e : c ≡ s.0). absurd (ne (theirs.0 ∙ ap at e ∙ sym h.0)))
    (λ other. s.7 c other ∙ is))
    mv
other_agrees at cs w n n' w' mv id j ne mine Nobody theirs is = tt
other_agrees at cs w n n' w' mv id j ne mine Gone theirs is = tt

still_away : (cs : List Chair) (at : ℕ → ℕ) (id : ℕ) (w : State) (n n' : Shown) (w' : State) → IsMove w n n' w' → Sits at cs id n → AllAway cs w → AllAway cs w'
still_away cs at id w n n' w' mv mine away c i free =
    ⊎_elim
    (λ (s : ServerMoves w n n' w'). s.5 c ∙ away c i free)
    (λ (s : ClientMoves w n n' w'). let h : Sits at cs id (ClientAt s.0 s.1) = subst (Sits at cs id) s.3 mine in
    let apart : c ≢ s.0 = λ (e : c ≡ s.0). let both : Some (Free i) ≡ Some Taken = sym free ∙ ap (slice_get cs) e ∙ h.1 in absurd (cc) in
    s.7 c apart ∙ away c i free)
    mv

-- kind 3: the list of steps has one more
acts_keeps : (id : ℕ) (v v' : View) (mail mail' : Mail) → IsLive (shown v.node) → v'.opening ≡ v.opening → Acts mail (shown v.node) mail' (shown v'.node) → Keeps id v mail mail' v'
acts_keeps id v v' mail mail' live same a views at w there se ru =
    let n = shown v.node in
    let n' = shown v'.node in
    let t = a.order w ru.reach (ru.agree id v there) ru.letters in
    let w' : State = t.after in
    let mine = se.each id v there in
    let agrees = move_agrees w n n' w' t.move in
    let reach : ReachableFrom mail.opening w' = reaches_on mail.opening w w' t.step t.answer ru.reach t.taken in
    let is : v.opening ≡ mail.opening = opening_of v mail live (ru.names id v there) in record {
      at = at;
      world = w';
      seated = seated_set at mail.chairs mail'.chairs views id v v' there se a.chairs (move_sits at mail.chairs w n n' w' t.move) (move_server w n n' w' t.move) (move_client w n n' w' t.move);
      running = record {
        reach = subst (λ (o : List (ℕ × Value)). ReachableFrom o w') (sym a.opening) reach;
        names = subst (λ (o : List (ℕ × Value)). Each (set views id v') (λ i u. Names o u)) (sym a.opening) (each_set (λ i u. Names mail.opening u) views id v' (λ j u _ e. ru.names j u e) (as_named n' (v'.opening ≡ mail.opening) (same ∙ is)));
        agree = each_set (λ i u. Agrees w' (shown u.node)) views id v' (λ j u ne e. other_agrees at mail.chairs w n n' w' t.move id j ne mine (shown u.node) (se.each j u e) (ru.agree j u e)) agrees;
        away = subst (λ (cs : List Chair). AllAway cs w') (sym a.chairs) (still_away mail.chairs at id w n n' w' t.move mine ru.away);
        letters = t.sent;
      };
      agreeable = agreeable_from mail.opening v.opening w' n' is reach agrees;
    }

put_set : (at : ℕ → ℕ) (c id : ℕ) (cs : List Chair) (i : ℕ) → slice_get cs c ≡ Some (Free i) → (j : ℕ) (n : Shown) → Sits at cs j n → Sits (put at c id) (set cs c Taken) j n
put_set at c id cs i free j (ServerAt d) h = h
put_set at c id cs i free j (ClientAt e p) h =
    let apart : e ≢ c = λ (same : e ≡ c). let both : Some (Free i) ≡ Some Taken = sym free ∙ ap (slice_get cs) (sym same) ∙ h.1 in absurd (cc) in
    (h.0 ∙ sym (put_else at c e id apart), chair_else cs c e Taken apart ∙ h.1)
put_set at c id cs i free j Nobody h = tt
put_set at c id cs i free j Gone h = tt

seated_sits : (at : ℕ → ℕ) (cs : List Chair) (views : List View) (id c i : ℕ) (v v' : View) → get_elem? views id ≡ opt.some v → Seated at cs views → shown v.node ≡ Nobody → slice_get cs c ≡ Some (Free i) → shown v'.node ≡ ClientAt c (down_at i)
    → Seated (put at c id) (set cs c Taken) (set views id v')
seated_sits at cs views id c i v v' there se blank free node = record {
  each = each_set (λ j u. Sits (put at c id) (set cs c Taken) j (shown u.node)) views id v' (λ j u _ e. put_set at c id cs i free j (shown u.node) (se.each j u e)) (subst (Sits (put at c id) (set cs c Taken) id) (sym node) (sym (put_here at c id), chair_here cs c Taken (Free i) free));
  server = has_set_else views id 0 IsServer v v' there (λ s. let both : Nobody ≡ ServerAt s.0 = sym blank ∙ s.1 in absurd (cc)) se.server;
  every = λ e taken. dite (ℕ_discrete e c)
      (λ (same : e ≡ c). (v', subst (λ k. get_elem? (set views id v') k ≡ opt.some v') (sym (ap (put at c id) same ∙ put_here at c id)) (there_set views id v v' there), (down_at i, node ∙ ap (λ k. ClientAt k (down_at i)) (sym same))))
      (λ ne.
      let t = has_set_else views id (at e) (IsClient e) v v' there (λ s. let both : Nobody ≡ ClientAt e s.0 = sym blank ∙ s.1 in absurd (cc)) (se.every e (sym (chair_else cs c e Taken ne) ∙ taken)) in
      (t.0, subst (λ k. get_elem? (set views id v') k ≡ opt.some t.0) (sym (put_else at c e id ne)) t.1, t.2));
}

-- kind 5, a client that sits down
sits_keeps : (id : ℕ) (v v' : View) (mail mail' : Mail) → v'.opening ≡ v.opening → SitsDown mail (shown v.node) mail' (shown v'.node) → Keeps id v mail mail' v'
sits_keeps id v v' mail mail' same d views at w there se ru =
    let c = d.0 in
    let i = d.1 in
    let is : v.opening ≡ mail.opening = subst (λ (n : Shown). NamesAs n (v.opening ≡ mail.opening)) d.2 (ru.names id v there) in
    let here : w.places c ≡ down_at i = ru.away c i d.3 in
    let agrees : Agrees w (shown v'.node) = subst (Agrees w) (sym d.4) here in
    subst (λ (m : Mail). Stays id v v' m views) (sym d.5) (record {
      at = put at c id;
      world = w;
      seated = seated_sits at mail.chairs views id c i v v' there se d.2 d.3 d.4;
      running = record {
        reach = ru.reach;
        names = each_set (λ j u. Names mail.opening u) views id v' (λ j u _ e. ru.names j u e) (as_named (shown v'.node) (v'.opening ≡ mail.opening) (same ∙ is));
        agree = each_set (λ j u. Agrees w (shown u.node)) views id v' (λ j u _ e. ru.agree j u e) agrees;
        away = λ e k free. dite (ℕ_discrete e c)
            (λ (eq : e ≡ c). let both : Some (Free k) ≡ Some Taken = sym free ∙ ap (slice_get (set mail.chairs c Taken)) eq ∙ chair_here mail.chairs c Taken (Free i) d.3 in absurd (cc))
            (λ ne. ru.away e k (sym (chair_else mail.chairs c e Taken ne) ∙ free));
        letters = record { to_server = ru.letters.to_server; to_clients = ru.letters.to_clients };
      };
      agreeable = agreeable_from mail.opening v.opening w (shown v'.node) is ru.reach agrees;
    })

leave_set : (at : ℕ → ℕ) (cs : List Chair) (id c i : ℕ) → id ≡ at c → (j : ℕ) → j ≢ id → (n : Shown) → Sits at cs j n → Sits at (set cs c (Free i)) j n
leave_set at cs id c i here j ne (ServerAt d) h = h
leave_set at cs id c i here j ne (ClientAt e p) h = let apart : e ≢ c = λ (same : e ≡ c). ne (h.0 ∙ ap at same ∙ sym here) in (h.0, chair_else cs c e (Free i) apart ∙ h.1)
leave_set at cs id c i here j ne Nobody h = tt
leave_set at cs id c i here j ne Gone h = tt

-- kind 5, a client that gets up
leaves_keeps : (id : ℕ) (v v' : View) (mail mail' : Mail) → v'.opening ≡ v.opening → GetsUp mail (shown v.node) mail' (shown v'.node) → Keeps id v mail mail' v'
leaves_keeps id v v' mail mail' same d views at w there se ru =
    let c = d.0 in
    let i = d.1 in
    let mine : Sits at mail.chairs id (ClientAt c (down_at i)) = subst (Sits at mail.chairs id) d.2 (se.each id v there) in
    let is : v.opening ≡ mail.opening = subst (λ (n : Shown). NamesAs n (v.opening ≡ mail.opening)) d.2 (ru.names id v there) in
    let here : w.places c ≡ down_at i = subst (Agrees w) d.2 (ru.agree id v there) in
    let now_free = chair_here mail.chairs c (Free i) Taken mine.1 in
    subst (λ (m : Mail). Stays id v v' m views) (sym d.4) (record {
      at = at;
      world = w;
      seated = record {
        each = each_set (λ j u. Sits at (set mail.chairs c (Free i)) j (shown u.node)) views id v' (λ j u ne e. leave_set at mail.chairs id c i mine.0 j ne (shown u.node) (se.each j u e)) (subst (Sits at (set mail.chairs c (Free i)) id) (sym d.3) tt);
        server = has_set_else views id 0 IsServer v v' there (λ s. let both : ClientAt c (down_at i) ≡ ServerAt s.0 = sym d.2 ∙ s.1 in absurd (cc)) se.server;
        every = λ e taken.
            let ne : e ≢ c = λ (eq : e ≡ c). let both : Some Taken ≡ Some (Free i) = sym taken ∙ ap (slice_get (set mail.chairs c (Free i))) eq ∙ now_free in absurd (cc) in
            has_set_else views id (at e) (IsClient e) v v' there (λ s. let both : ClientAt c (down_at i) ≡ ClientAt e s.0 = sym d.2 ∙ s.1 in let eq : e ≡ c = cc in ne eq) (se.every e (sym (chair_else mail.chairs c e (Free i) ne) ∙ taken));
      };
      running = record {
        reach = ru.reach;
        names = each_set (λ j u. Names mail.opening u) views id v' (λ j u _ e. ru.names j u e) (as_named (shown v'.node) (v'.opening ≡ mail.opening) (same ∙ is));
        agree = each_set (λ j u. Agrees w (shown u.node)) views id v' (λ j u _ e. ru.agree j u e) (subst (Agrees w) (sym d.3) tt);
        away = λ e k free. dite (ℕ_discrete e c)
            (λ (eq : e ≡ c). let both : Some (Free k) ≡ Some (Free i) = sym free ∙ ap (slice_get (set mail.chairs c (Free i))) eq ∙ now_free in let it : k ≡ i = cc in ap w.places eq ∙ here ∙ ap down_at (sym it))
            (λ ne. ru.away e k (sym (chair_else mail.chairs c e (Free i) ne) ∙ free));
        letters = record { to_server = ru.letters.to_server; to_clients = ru.letters.to_clients };
      };
      agreeable = agreeable_from mail.opening v.opening w (shown v'.node) is ru.reach (subst (Agrees w) (sym d.3) tt);
    })

pub change_keeps : (id : ℕ) (v v' : View) (mail mail' : Mail) → IsLive (shown v.node) → v'.opening ≡ v.opening → Change mail (shown v.node) mail' (shown v'.node) → Keeps id v mail mail' v'
change_keeps id v v' mail mail' live same ch =
    ⊎_elim
    (λ (r : Rests mail (shown v.node) mail' (shown v'.node)). rests_keeps id v v' mail mail' live same r.0 r.1)
    (⊎_elim (λ (a : Acts mail (shown v.node) mail' (shown v'.node)). acts_keeps id v v' mail mail' live same a)
    (⊎_elim (λ (d : SitsDown mail (shown v.node) mail' (shown v'.node)). sits_keeps id v v' mail mail' same d) (λ (d : GetsUp mail (shown v.node) mail' (shown v'.node)). leaves_keeps id v v' mail mail' same d)))
    ch

-- at a seat that may give
pub gives_post_as : (slots id : ℕ) (m : Me Mail View) (next : Node) → MayGive m next → Allows Holds slots id m 0 (λ _. 0) (λ _. gave next m 0)
gives_post_as slots id m next g = subst (λ (c : List (ℕ × Mail)). Allows Holds slots id (m.0, c) 0 (λ _. 0) (λ _. gave next (m.0, c) 0)) (sym g.has)
    (gives_post slots id m.0 g.taken g.given next g.held (change_keeps id m.0 (given_view (m.0, (0, g.given) ∷ []) next) g.taken g.given g.live refl g.change))
