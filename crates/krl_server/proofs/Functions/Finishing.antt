-- What is left to be done after a case.
use Rattle.krl_server.proofs.Names.{◌≡◌, ◌+◌, ◌≤◌, Bool, true, false, [], ◌++◌, length, sym, ap, subst, ◌∙◌, arith, append-nil, if◌then◌else◌, Server, is_recovering, callbacks, Calls, IsSound, Sent}
use Rattle.krl_server.proofs.Names.{Sends, HasAnswered, calls_after, rests, still_recovering, served, HasFinished, HasRoom}
use Rattle.krl_server.specs.declared.case.After.{After}
use Rattle.krl_server.specs.Afters.{does_answer, does_call}
use Rattle.krl_server.proofs.Functions.Boxes.{sends_more, sends_length}
use Rattle.krl_server.proofs.Functions.CallbackLoop.{same_box}
use Rattle.krl_server.proofs.Outputs.Ends.{answered_less}
use Rattle.krl_server.proofs.Outputs.Numbers.{calls_few}

pub finish_rests : (s : Server) (left : After) (box : Sent) (b : Bool) → b ≡ does_answer left → b ≡ false → HasFinished s left s box box
finish_rests s left box b e f = record { outs = []; finished = rests (sym e ∙ f); sends = same_box box }

pub finish_recovers : (s : Server) (left : After) (box : Sent) (b : Bool) → b ≡ is_recovering s.missing → b ≡ true → HasFinished s left s box box
finish_recovers s left box b e f = record { outs = []; finished = still_recovering (sym e ∙ f); sends = same_box box }

module _ (s t : Server) (left : After) (box mid : Sent) (answers recovers : Bool) (is : answers ≡ does_answer left) (yes : answers ≡ true) (up : recovers ≡ is_recovering s.missing) (serves : recovers ≡ false) (h : HasAnswered s t box mid) where
  pub finish_answers : (calls : Bool) → calls ≡ does_call left → calls ≡ false → HasFinished s left t box mid
  finish_answers calls e f = record {
    outs = h.outs ++ calls_after left t;
    finished = served t h.outs (sym is ∙ yes) (sym up ∙ serves) h.answered;
    sends = subst (Sends box mid) (sym (append-nil h.outs) ∙ ap (λ b. h.outs ++ (if b then callbacks t else [])) (sym f ∙ e)) h.sends;
  }

  pub finish_calls : (calls : Bool) (end : Sent) → calls ≡ does_call left → calls ≡ true → Sends mid end (callbacks t) → HasFinished s left t box end
  finish_calls calls end e f sends = record {
    outs = h.outs ++ calls_after left t;
    finished = served t h.outs (sym is ∙ yes) (sym up ∙ serves) h.answered;
    sends = subst (λ l. Sends box end (h.outs ++ l)) (ap (λ b. if b then callbacks t else []) (sym f ∙ e)) (sends_more box mid end h.outs (callbacks t) h.sends sends);
  }

  -- there is room for the callbacks
  pub room_for_calls : (calls : Bool) → calls ≡ does_call left → calls ≡ true → IsSound t → HasRoom s left box → length mid.sent + length (callbacks t) ≤ mid.room
  room_for_calls calls e f sound room =
      let all = room.calls (sym e ∙ f) in
      let less = answered_less s t h.outs h.answered in
      let few = calls_few t Calls sound in
      let long = sends_length box mid h.outs h.sends in
      let more = h.sends.room in
      omega (arith, all, less, few, long, more)
