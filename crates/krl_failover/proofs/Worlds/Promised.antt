-- What the machine of many servers promises holds in each world over one fenced store that is reached.
use Rattle.std.proofs.Common.{◌≡◌, ℕ, ◌+◌, ◌<◌, ◌≤◌, ◌⊎◌, inl, inr, false, Option, Some, None, List, [], ◌∷◌, arith, refl, sym, ap, subst, ◌∙◌}
use Rattle.std.proofs.lemmas.Option.{none-some}
use Rattle.krl_modes.specs.declared.point.TheConstants.{END}
use Rattle.krl_messages.specs.declared.to_server.ToServer.{ToServer}
use Rattle.krl_messages.specs.Members.{In}
use Rattle.krl_durable.specs.Registers.{Durable}
use Rattle.krl_messages.specs.Values.{Value}
use Rattle.krl_machine.specs.Links.{Op, op_key}
use Rattle.krl_machine.specs.Worlds as machine
use Rattle.krl_server.specs.Servers.{Server}
use Rattle.krl_server.specs.Steps.{start, alarms}
use Rattle.krl_refinement.proofs.Server.Follows.{up_phase}
use Rattle.krl_refinement.proofs.Server.Whole.{all_follow}
use Rattle.krl_failover.proofs.Machine.Reached.{fenced_compatible, fenced_scans, fenced_writes}
use Rattle.krl_failover.proofs.Refinement.Follows.{store_follows}
use Rattle.krl_world.specs.declared.message.Message.TheVariants as message
use Rattle.krl_world.specs.Promises.{Headline}
use Rattle.krl_world.specs.States.{Up, opened}
use Rattle.krl_world.specs.Steps.{CanOpen}
use Rattle.krl_world.proofs.Refinement.Mirrors.{machine_of}
use Rattle.krl_world.proofs.Refinement.Openings.{first_of, first_reached, first_mirrors}
use Rattle.krl_world.proofs.Refinement.MachineOpens.{links_of}
use Rattle.krl_world.proofs.Promises.CompatibilityAndScans.{compatible_world, scans_world}
use Rattle.krl_world.proofs.Promises.Written.{writes_world}
use Rattle.krl_failover.specs.Worlds.{FencedWorld, IsReached, begun, moved}
use Rattle.krl_failover.proofs.Worlds.Openings.{fenced_of}
use Rattle.krl_failover.proofs.Worlds.Shown.{Shown, same_up}
use Rattle.krl_failover.proofs.Worlds.Taken.{move_shown}

-- a scan of one point reports what a scan of many reports there

abbrev first_value : List (ℕ × Value) → Option Value
first_value [] = None
first_value (e ∷ es) = Some e.1

entry_first : (q : ℕ) (o : Option Value) → first_value (machine.with_entry q o []) ≡ o
entry_first q None = refl
entry_first q (Some v) = refl

scan_points : (w : machine.World) → machine.ScanIsRange w → machine.ScanIsIndex w
scan_points w scan c lo last near free covered q low up =
    let x = scan c q 1 (omega (arith, near, up)) (λ op e. aside op e (free op e)) (λ p a b. covered p (omega (arith, low, a)) (omega (arith, up, b))) in
    let l = w.links c in
    sym (entry_first q (machine.row_of (l.key q) (l.value q))) ∙ ap first_value x ∙ entry_first q (w.shared.index q)
  where
    aside : (op : Op) → (w.links c).out ≡ Some op → (op_key op < lo) ⊎ (last < op_key op) → (op_key op < q) ⊎ (q + 1 ≤ op_key op)
    aside op e (inl a) = inl (omega (arith, a, low))
    aside op e (inr b) = inr (omega (arith, b, up))

opened_shown : (d : Durable) → CanOpen d → Shown (record { world = opened d; old = λ e. None })
unfolding opened
opened_shown d can =
    let m = first_mirrors all_follow d can in
    let x = fenced_of (first_of d) (machine_of (Up (start d)) (links_of d.register) []) (first_reached d can) (up_phase (start d).missing) in
    record {
      store = start d;
      up = refl;
      fenced = x.0;
      of = links_of d.register;
      log = [];
      mirrors = record {
        reached = x.1;
        world = x.2;
        shows = m.server.0;
        sound = m.server.1;
        empty = λ c r e left n. refl;
        blank = λ c left q. (refl, refl);
      };
      world = m;
      old = λ e y is. absurd (none-some y is);
    }

pub reached_shown : (w : FencedWorld) → IsReached w → Shown w
reached_shown w (begun d can) = opened_shown d can
reached_shown w (moved u v r m) = move_shown u w m (reached_shown u r)

pub headline_holds : (w : FencedWorld) → IsReached w → Headline w.world
headline_holds w r =
    let h = reached_shown w r in
    let first = first_of w.world.opening in
    let is : h.fenced.world ≡ machine_of w.world.server h.of h.log = h.mirrors.world ∙ sym (ap (λ n. machine_of n h.of h.log) h.up) in
    record {
      compatible = compatible_world w.world h.of h.log h.world (subst machine.IsCompatible is (fenced_compatible first END h.fenced h.mirrors.reached));
      scans = scans_world w.world h.of h.log h.world (subst machine.ScanIsIndex is (scan_points h.fenced.world (fenced_scans first END h.fenced h.mirrors.reached)));
      writes = writes_world w.world h.of h.log h.world (subst (machine.WritesOnce first) is (fenced_writes first END h.fenced h.mirrors.reached));
    }

pub never_alarms : (w : FencedWorld) → IsReached w → (s : Server) → w.world.server ≡ Up s → (m : ToServer) → In (message.ToServer m) w.world.sent → alarms s m ≡ false
never_alarms w r s up m at =
    let h = reached_shown w r in
    let same : h.store ≡ s = same_up h.store s (sym h.up ∙ up) in
    subst (λ x. alarms x m ≡ false) same (store_follows.no_alarm (first_of w.world.opening) h.fenced h.store h.of h.log m h.mirrors (h.world.from m at))
