-- A server's step, by what its parts come to.
use Rattle.krl_world.proofs.Names.{◌≡◌, ◌≢◌, ◌∙◌, true, false, Some, None, List, [], ◌++◌, sym, subst, ToServer, ToClient, Server, is_recovering, Case, case_of, Done, effect, Turn, next_turn}
use Rattle.krl_world.proofs.Names.{answer_first, AnswersWaiters, stops, goes_on, Following, Nothing, following, callbacks_after, Ends, recovers, serves, ServerStep}
use Rattle.krl_world.proofs.Refinement.Serves.{nil_right}

-- these are sent, one after another
ends_with : (done : Done) (kind : Following) (t : Server) (own answers called : List ToClient) → done.outs ≡ own → callbacks_after kind t ≡ called → kind ≢ Nothing → is_recovering done.server.missing ≡ false → AnswersWaiters done.server t answers → Ends done kind t (own ++ (answers ++ called))
ends_with done kind t own answers called o c n up a =
    subst (λ xs. Ends done kind t (xs ++ (answers ++ called))) o (subst (λ xs. Ends done kind t (done.outs ++ (answers ++ xs))) c (serves t answers n up a))

-- a message of this case, after which the server still recovers
pub still_recovers : (s : Server) (m : ToServer) (k : Case) (own : List ToClient) → case_of s m ≡ k → is_recovering (effect s m k).server.missing ≡ true → (effect s m k).outs ≡ own → ServerStep s m (effect s m k).server own
still_recovers s m k own e g o =
    subst (λ x. Ends (effect s m x) (following x) (effect s m k).server own) (sym e)
    (subst (λ xs. Ends (effect s m k) (following k) (effect s m k).server xs) o (recovers g))

-- a message of this case, after which nobody can be answered
pub answers_none : (s : Server) (m : ToServer) (k : Case) (own called : List ToClient) → case_of s m ≡ k → following k ≢ Nothing → is_recovering (effect s m k).server.missing ≡ false → (effect s m k).outs ≡ own → next_turn (effect s m k).server ≡ None → callbacks_after (following k) (effect s m k).server ≡ called → ServerStep s m (effect s m k).server (own ++ called)
answers_none s m k own called e n up o none c =
    subst (λ x. Ends (effect s m x) (following x) (effect s m k).server (own ++ called)) (sym e)
    (ends_with (effect s m k) (following k) (effect s m k).server own [] called o c n up (stops (effect s m k).server none))

-- one after which this one is answered, and then nobody can be
pub answers_one : (s : Server) (m : ToServer) (k : Case) (turn : Turn) (own answer called : List ToClient) → case_of s m ≡ k → following k ≢ Nothing → is_recovering (effect s m k).server.missing ≡ false → (effect s m k).outs ≡ own → next_turn (effect s m k).server ≡ Some turn → (answer_first (effect s m k).server turn).outs ≡ answer → next_turn (answer_first (effect s m k).server turn).server ≡ None → callbacks_after (following k) (answer_first (effect s m k).server turn).server ≡ called → ServerStep s m (answer_first (effect s m k).server turn).server (own ++ (answer ++ called))
answers_one s m k turn own answer called e n up o first a none c =
    let u = (effect s m k).server in
    let t = (answer_first u turn).server in
    subst (λ x. Ends (effect s m x) (following x) t (own ++ (answer ++ called))) (sym e)
    (ends_with (effect s m k) (following k) t own answer called o c n up
    (subst (λ xs. AnswersWaiters u t xs) (nil_right (answer_first u turn).outs
    ∙ a) (goes_on u t turn [] first (stops t none))))
