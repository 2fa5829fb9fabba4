-- Kinds 6 and 7: a blank seat comes, or is taken in. And the opening.
use Rattle.krl_nodes.proofs.Names.{◌≡◌, ◌≢◌, ℕ, zero, suc, List, [], ◌∷◌, ◌++◌, set, None, inl, inr, ⊎_elim, refl, sym, ap, ◌∙◌, subst, some-injective, some-ne-none, dite, ℕ_discrete, get_elem?}
use Rattle.krl_nodes.proofs.Names.{Splits, Joins, opening, set_again, at_longer, node_of, State, View, Mail, ServerAt, ClientAt, Nobody, shown, Each, AtHome, IsOut, Kept, Sits, IsServer, IsClient}
use Rattle.krl_nodes.proofs.Names.{Names, Agrees, ReachableFrom, Holds, down_at, first_view, blank_of, spent_view, joined_view, IsLive, IsBlank, IsNewPost}
use mathlib.Core.Option as opt
use Rattle.krl_world.specs.declared.node.ServerPlace.{ServerPlace as KeptNode}
use Rattle.krl_nodes.proofs.Views.{each_set, each_snoc, has_set_else, seated_set, seated_snoc, stays_set, there_set}
use Rattle.krl_nodes.proofs.Takes.{running_same}
use Rattle.krl_nodes.proofs.Gives.{named}

kept_snoc : (words : List ℕ) (homes : List (opt.Option Mail)) (views : List View) (mail : Mail) (w : View) → w.held ≡ None → Kept words homes views mail → Kept words homes (views ++ w ∷ []) mail
kept_snoc words homes views mail w free k =
    ⊎_elim
    (λ (a : AtHome words homes views mail). inl (record { word = a.word; slot = a.slot; none_holds = each_snoc (λ i u. u.held ≡ None) views w a.none_holds (λ j. free) }))
    (λ (o : IsOut words homes views mail). inr (record {
      word = o.word;
      slot = o.slot;
      holder = o.holder;
      view = o.view;
      there = at_longer views (w ∷ []) o.holder o.view o.there;
      names = o.names;
      others = each_snoc (λ i u. i ≢ o.holder → u.held ≡ None) views w o.others (λ j _. free);
    }))
    k

-- kind 6
pub blank_comes : (id : ℕ) (v : View) → IsLive (shown v.node) → Splits Holds id v v (blank_of v)
blank_comes id v live s h there =
    let r = blank_of v in
    let is : v.opening ≡ h.mail.opening = named (shown v.node) (v.opening ≡ h.mail.opening) live (h.running.names id v there) in
    subst (λ (vs : List View). Holds (record { words = s.words; homes = s.homes; views = vs ++ r ∷ [] })) (sym (set_again s.views id v there)) (record {
      mail = h.mail;
      at = h.at;
      world = h.world;
      kept = kept_snoc s.words s.homes s.views h.mail r refl h.kept;
      seated = seated_snoc h.at h.mail.chairs s.views r h.seated refl;
      running = record {
        reach = h.running.reach;
        names = each_snoc (λ i u. Names h.mail.opening u) s.views r h.running.names (λ j. is);
        agree = each_snoc (λ i u. Agrees h.world (shown u.node)) s.views r h.running.agree (λ j. tt);
        away = h.running.away;
        letters = h.running.letters;
      };
    })

-- (i), after a view changed that names the same post
kept_set : (words : List ℕ) (homes : List (opt.Option Mail)) (views : List View) (mail : Mail) (id : ℕ) (v w : View) → get_elem? views id ≡ opt.some v → w.held ≡ v.held → Kept words homes views mail → Kept words homes (set views id w) mail
kept_set words homes views mail id v w there same k =
    ⊎_elim
    (λ (a : AtHome words homes views mail). inl (record { word = a.word; slot = a.slot; none_holds = each_set (λ i u. u.held ≡ None) views id w (λ j u _ e. a.none_holds j u e) (same ∙ a.none_holds id v there) }))
    (λ (o : IsOut words homes views mail). inr (dite (ℕ_discrete o.holder id)
    (λ (e : o.holder ≡ id).
    let is : o.view ≡ v = some-injective _ _ (sym o.there ∙ ap (get_elem? views) e ∙ there) in record {
      word = o.word;
      slot = o.slot;
      holder = o.holder;
      view = w;
      there = subst (λ k. get_elem? (set views id w) k ≡ opt.some w) (sym e) (there_set views id v w there);
      names = same ∙ ap (λ (u : View). u.held) (sym is) ∙ o.names;
      others = each_set (λ i u. i ≢ o.holder → u.held ≡ None) views id w (λ j u _ e. o.others j u e) (λ ne. absurd (ne (sym e)));
    })
    (λ (apart : o.holder ≢ id). record {
      word = o.word;
      slot = o.slot;
      holder = o.holder;
      view = o.view;
      there = stays_set views id o.holder w o.view apart o.there;
      names = o.names;
      others = each_set (λ i u. i ≢ o.holder → u.held ≡ None) views id w (λ j u _ e. o.others j u e) (λ ne. same ∙ o.others id v there ne);
    })))
    k

-- a seat that keeps what it was, except for its last exchange
told : (words : List ℕ) (homes : List (opt.Option Mail)) (views : List View) (id : ℕ) (v w : View) → get_elem? views id ≡ opt.some v → Holds (record { words = words; homes = homes; views = views }) → Holds (record { words = words; homes = homes; views = set views id (joined_view v w) })
told words homes views id v w there h = record {
  mail = h.mail;
  at = h.at;
  world = h.world;
  kept = kept_set words homes views h.mail id v (joined_view v w) there refl h.kept;
  seated = seated_set h.at h.mail.chairs h.mail.chairs views id v (joined_view v w) there h.seated refl (λ i x. x) (λ x. x) (λ c x. x);
  running = running_same h.mail views h.world id v (joined_view v w) there refl refl h.running;
}

-- a blank seat is spent
spends : (words : List ℕ) (homes : List (opt.Option Mail)) (views : List View) (other : ℕ) (w : View) → IsBlank w → get_elem? views other ≡ opt.some w → Holds (record { words = words; homes = homes; views = views }) → Holds (record { words = words; homes = homes; views = set views other spent_view })
spends words homes views other w blank there h =
    let nobody : shown w.node ≡ Nobody = ap shown blank.0 in record {
      mail = h.mail;
      at = h.at;
      world = h.world;
      kept = kept_set words homes views h.mail other w spent_view there (sym blank.1) h.kept;
      seated = record {
        each = each_set (λ i u. Sits h.at h.mail.chairs i (shown u.node)) views other spent_view (λ j u _ e. h.seated.each j u e) tt;
        server = has_set_else views other 0 IsServer w spent_view there (λ s. let both : Nobody ≡ ServerAt s.0 = sym nobody ∙ s.1 in absurd (cc)) h.seated.server;
        every = λ c taken. has_set_else views other (h.at c) (IsClient c) w spent_view there (λ s. let both : Nobody ≡ ClientAt c s.0 = sym nobody ∙ s.1 in absurd (cc)) (h.seated.every c taken);
      };
      running = record {
        reach = h.running.reach;
        names = each_set (λ i u. Names h.mail.opening u) views other spent_view (λ j u _ e. h.running.names j u e) tt;
        agree = each_set (λ i u. Agrees h.world (shown u.node)) views other spent_view (λ j u _ e. h.running.agree j u e) tt;
        away = h.running.away;
        letters = h.running.letters;
      };
    }

-- kind 7
pub blank_goes : (id : ℕ) (v : View) (other : ℕ) (w : View) → IsBlank w → Joins Holds id v other w (joined_view v w) spent_view
blank_goes id v other w blank s h at apart there =
    spends s.words s.homes (set s.views id (joined_view v w)) other w blank there (told s.words s.homes s.views id v w at h)

only : (P : ℕ → View → Type 0) (v : View) → P 0 v → Each (v ∷ []) P
only P v p zero u e = subst (P 0) (some-injective _ _ e) p
only P v p (suc i) u e = absurd (some-ne-none u (sym e))

-- the first table: the world is this one, nobody is seated, and no letter waits
pub opens : (mail : Mail) (d : KeptNode) (w : State) → IsNewPost mail → ReachableFrom mail.opening w → w.server ≡ node_of d → ((c : ℕ) → w.places c ≡ down_at 0) → Holds (opening (0 ∷ []) (mail ∷ []) (first_view mail.opening d))
opens mail d w new reach is away = record {
  mail = mail;
  at = λ c. 0;
  world = w;
  kept = inl (record { word = refl; slot = refl; none_holds = only (λ i v. v.held ≡ None) (first_view mail.opening d) refl });
  seated = record {
    each = only (λ i v. Sits (λ c. 0) mail.chairs i (shown v.node)) (first_view mail.opening d) refl;
    server = (first_view mail.opening d, refl, (node_of d, refl));
    every = λ c taken. absurd (new.nobody c taken);
  };
  running = record {
    reach = reach;
    names = only (λ i v. Names mail.opening v) (first_view mail.opening d) refl;
    agree = only (λ i v. Agrees w (shown v.node)) (first_view mail.opening d) is;
    away = λ c i free. away c ∙ ap down_at (sym (new.never c i free));
    letters = new.letters w.sent;
  };
}
