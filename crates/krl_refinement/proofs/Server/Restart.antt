-- A crash and a start of the server.
use Rattle.krl_refinement.proofs.Names.{◌≡◌, ℕ, suc, ◌≤◌, Bool, true, false, Option, Some, None, List, [], ◌∷◌, ◌⊎◌, inl, inr, refl, sym, ap, subst, ◌∙◌, nat_eq, none-some, END, Record, Register}
use Rattle.krl_refinement.proofs.Names.{Durable, record_of, not_left, blank_rows, Link, no_range, no_key, Logged, IsMissing, crash, start, finish, Steps, none, more, Server, blank_session}
use Rattle.krl_refinement.proofs.Names.{is_recovering, lists, can_start, IsSound, blank_range, blank_key, not_both, start_sound, IsRecord, Shows, DurableShows, down_world_of, world_of, BoundStays}
use Rattle.krl_refinement.proofs.Names.{CrashFollows, StartFollows, IsIdle, Opens}
use Rattle.std.specs.Prelude.{if◌then◌else◌, ◌||◌}
use Rattle.std.specs.FinMap as map
use Rattle.krl_server.specs.Steps as steps
use Rattle.krl_refinement.proofs.Server.Follows.{up_phase}

pub crash_follows : (s : Server) (of : ℕ → Link) (log : List Logged) → Shows s of → IsSound s → CrashFollows s of log
crash_follows s of log h i = record { steps = more none (crash (up_phase s.missing)); shows = λ c. (h.link c).known; sound = start_sound s.durable i.near }

pub missing_known : (es : Register) (c : ℕ) → lists (not_left es) c ≡ false → (l : Link) → IsRecord (record_of es c) l → (l.left ≡ true) ⊎ (l.reg ≡ 0)
missing_known [] c e l h = inr h.reg
missing_known (x ∷ es) c e l h = by_left x.1.left refl (nat_eq c x.0) refl e h (missing_known es c)
  where
    by_left : (b : Bool) → x.1.left ≡ b → (a : Bool) → nat_eq c x.0 ≡ a → lists (if b then not_left es else x.0 ∷ not_left es) c ≡ false → IsRecord (if a then Some x.1 else record_of es c) l → (lists (not_left es) c ≡ false → (l : Link) → IsRecord (record_of es c) l → (l.left ≡ true) ⊎ (l.reg ≡ 0)) → (l.left ≡ true) ⊎ (l.reg ≡ 0)
    by_left true f true g e h ih = inl (h.left ∙ f)
    by_left true f false g e h ih = ih e l h
    by_left false f true g e h ih = let y : (true || lists (not_left es) c) ≡ false = subst (λ b. (b || lists (not_left es) c) ≡ false) g e in absurd (cc)
    by_left false f false g e h ih = ih (sym (ap (λ b. b || lists (not_left es) c) g) ∙ e) l h

abbrev pub started_with : Durable → List ℕ → Server
started_with d ms = record { durable = record d { epoch = suc d.epoch }; rows = blank_rows; sessions = λ c. blank_session; missing = ms }

known_kept : (o : Option Record) (l : Link) (b : Bool) → IsRecord o l → IsRecord o (record l { missing = b; last_push = 0; acked = true; new_range = no_range; new_key = no_key })
known_kept None l b h = h
known_kept (Some r) l b h = h

known_end : (o : Option Record) (l : Link) (b : Bool) → IsRecord o l → IsRecord o (record l { missing = b; last_push = 0; acked = true; new_range = no_range; new_key = no_key; top_range = no_range; top_key = no_key })
known_end None l b h = h
known_end (Some r) l b h = h

-- the links after a start: if nobody is missing, it serves at once
abbrev pub started_links : (ℕ → Link) → List ℕ → ℕ → Link
started_links of [] c = record (of c) { missing = false; last_push = 0; acked = true; new_range = no_range; new_key = no_key; top_range = no_range; top_key = no_key }
started_links of (x ∷ xs) c = record (of c) { missing = lists (x ∷ xs) c; last_push = 0; acked = true; new_range = no_range; new_key = no_key }

pub started_shows : (d : Durable) (ms : List ℕ) (of : ℕ → Link) → DurableShows d of → Shows (started_with d ms) (started_links of ms)
started_shows d [] of known = record {
  link = λ c. record { known = known_end (record_of d.register c) (of c) false (known c); missing = refl; last_push = refl; acked = refl; unacked = λ body e. absurd (none-some body e); range = λ p q. sym (blank_range d.index blank_rows c (λ n. refl) q); key = λ p q. sym (blank_key d.index blank_rows c (λ n. refl) q); new_range = λ p q. sym (blank_range d.index blank_rows c (λ n. refl) q); new_key = λ p q. sym (blank_key d.index blank_rows c (λ n. refl) q) };
  heard = λ n u at. absurd at;
}
started_shows d (x ∷ xs) of known = record {
  link = λ c. record { known = known_kept (record_of d.register c) (of c) (lists (x ∷ xs) c) (known c); missing = refl; last_push = refl; acked = refl; unacked = λ body e. absurd (none-some body e); range = λ p q. absurd (cc); key = λ p q. absurd (cc); new_range = λ p q. sym (blank_range d.index blank_rows c (λ n. refl) q); new_key = λ p q. sym (blank_key d.index blank_rows c (λ n. refl) q) };
  heard = λ n u at. absurd at;
}

pub started_clients : (ms : List ℕ) (of : ℕ → Link) (c : ℕ) → (started_links of ms c).client ≡ (of c).client
started_clients [] of c = refl
started_clients (x ∷ xs) of c = refl

started_steps : (d : Durable) (ms : List ℕ) (of : ℕ → Link) (log : List Logged) → ((c : ℕ) → IsMissing (of c) (lists ms c)) → Steps (down_world_of d of log) (world_of (started_with d ms) (started_links of ms) log)
started_steps d [] of log miss = more (more none (start (λ c. false) refl miss)) (finish refl (λ c. refl))
started_steps d (x ∷ xs) of log miss = more none (start (lists (x ∷ xs)) refl miss)

started_bound : (ms : List ℕ) (of : ℕ → Link) → is_recovering ms ≡ true → (c : ℕ) → BoundStays false (of c) (started_links of ms c)
started_bound [] of g c = absurd (not_both (is_recovering []) g refl)
started_bound (x ∷ xs) of g c = record { range = λ p. refl; key = λ p. refl }

-- a start is a start, and a finish if nobody is missing
pub start_follows : (d : Durable) (of : ℕ → Link) (log : List Logged) → can_start d ≡ true → DurableShows d of → IsSound (steps.start d) → StartFollows d of log
start_follows d of log can known i =
    let ms = not_left d.register in
    record {
      follows = record {
        after = started_links of ms;
        log_after = log;
        steps = started_steps d ms of log (λ c e. missing_known d.register c e (of c) (known c));
        shows = started_shows d ms of known;
        sound = i;
        sent = λ o at. absurd at;
        clients = started_clients ms of;
      };
      writes = refl;
      bound = started_bound ms of;
    }

-- the first start, if each client that is known has left
pub opens : (d : Durable) (of : ℕ → Link) → not_left d.register ≡ [] → DurableShows d of → ((c : ℕ) → IsIdle (of c)) → ((q : ℕ) → END ≤ q → map.get d.index q ≡ None) → Opens d of
opens d of gone known idle near = record {
  shows = subst (λ ms. Shows (started_with d ms) of) (sym gone)
      (record {
        link = λ c. record { known = known c; missing = (idle c).missing; last_push = (idle c).last_push; acked = (idle c).acked; unacked = λ body f. absurd (none-some body f); range = λ p q. (idle c).range q ∙ sym (blank_range d.index blank_rows c (λ n. refl) q); key = λ p q. (idle c).key q ∙ sym (blank_key d.index blank_rows c (λ n. refl) q); new_range = λ p q. absurd (cc); new_key = λ p q. absurd (cc) };
        heard = λ n u at. absurd at;
      });
  sound = start_sound d near;
}
