-- The steps at a place, over what a world keeps.
use Rattle.krl_world.proofs.Names.{◌≡◌, ℕ, suc, ◌≤◌, ◌<◌, Some, None, Option, List, length, set, get_or, refl, sym, ap, subst, ◌∙◌, arith, get_or_default, Result, Ok, Err, slice_get, ToClient}
use Rattle.krl_world.proofs.Names.{Client, Message, Command, Answer, Refused, client_of, Steps, KeptWorld, meaning, place_of, kept_nobody, client_there, IsRefused, CommandedAt, Started, Ticked, HasRead}
use Rattle.krl_world.proofs.Names.{starting_refusal}
use Rattle.krl_client.specs.Fields as client_fields
use Rattle.krl_world.specs.declared.node.ClientPlace.{ClientPlace as KeptClientPlace}
use Rattle.krl_world.specs.declared.message.Message.TheVariants as message
use Rattle.krl_steps.specs.declared.step.Step.TheVariants as step
use Rattle.krl_steps.specs.declared.answer.Answer.TheVariants as told
use Rattle.krl_steps.specs.declared.refused.Refused.TheVariants as refused
use Rattle.krl_world.proofs.Functions.Lifts.{places_set, unchanged_by}
use Rattle.krl_world.proofs.Functions.Commands.{gone, gone_fields, command_steps}
use Rattle.krl_world.proofs.Functions.ClientPlaces as places

-- the place of a client number
pub record IsAt (w : KeptWorld) (c : ℕ) (x : KeptClientPlace) : Type 0 where
  pub low : c ≤ 63
  pub there : c < length w.places
  pub is : x ≡ get_or w.places c kept_nobody

pub is_at : (w : KeptWorld) (c : ℕ) (x d : KeptClientPlace) → length w.places ≡ 64 → c ≤ 63 → x ≡ get_or w.places c d → IsAt w c x
is_at w c x d full low e = let there : c < length w.places = omega arith in
    record { low = low; there = there; is = e ∙ get_or_default w.places c d kept_nobody there }

client_is : (w : KeptWorld) (c : ℕ) (x : KeptClientPlace) (o : Option Client) → IsAt w c x → client_there x.client ≡ o → client_of (meaning w) c ≡ o
client_is w c x o a e = ap (λ (s : KeptClientPlace). client_there s.client) (sym a.is) ∙ e

pub command_at : (w : KeptWorld) (c : ℕ) (x y : KeptClientPlace) (sent : List Message) (what : Command) (r : Result Answer Refused) → IsAt w c x → y.last_incarnation ≡ x.last_incarnation → CommandedAt (client_there x.client) what (client_there y.client) w.sent sent r → Steps (meaning w) (step.Command c what) r (meaning (record w { places = set w.places c y; sent = sent }))
command_at w c x y sent what r a g d =
    command_steps (meaning w) (meaning (record w { places = set w.places c y; sent = sent })) c what (client_there x.client) (client_there y.client) sent r a.low (client_is w c x _ a refl) (gone_fields w c x y sent a.there a.is g) d

pub crash_at : (w : KeptWorld) (c : ℕ) (x y : KeptClientPlace) (k : client_fields.KeptClient) → IsAt w c x → y.last_incarnation ≡ x.last_incarnation → x.client ≡ Some k → y.client ≡ None → Steps (meaning w) (step.CrashClient c) (Ok told.Done) (meaning (record w { places = set w.places c y }))
crash_at w c x y k a g e f =
    places.crashed_steps (meaning w) (meaning (record w { places = set w.places c y })) c (client_fields.meaning k) a.low (client_is w c x _ a (ap client_there e)) (gone_fields w c x y w.sent a.there a.is g ∙ ap (λ o. gone (meaning w) c (client_there o) w.sent) f)

pub crash_none_at : (w : KeptWorld) (c : ℕ) (x y : KeptClientPlace) → IsAt w c x → y.last_incarnation ≡ x.last_incarnation → x.client ≡ None → y.client ≡ None → Steps (meaning w) (step.CrashClient c) (Err refused.Down) (meaning (record w { places = set w.places c y }))
crash_none_at w c x y a g e f =
    places.crash_down (meaning w) (meaning (record w { places = set w.places c y })) c a.low (client_is w c x _ a (ap client_there e)) (gone_fields w c x y w.sent a.there a.is g ∙ ap (λ o. gone (meaning w) c (client_there o) w.sent) f)

pub start_at : (w : KeptWorld) (c : ℕ) (x y : KeptClientPlace) (sent : List Message) → IsAt w c x → Started c (place_of x) (place_of y) w.sent sent → Steps (meaning w) (step.StartClient c) (Ok told.Done) (meaning (record w { places = set w.places c y; sent = sent }))
start_at w c x y sent a s =
    places.started_steps (meaning w) (meaning (record w { places = set w.places c y; sent = sent })) c (place_of y) sent a.low (λ t. record (meaning w) { places = places_set w.places c y a.there t; sent = sent })
    (subst (λ (z : KeptClientPlace). Started c (place_of z) (place_of y) w.sent sent) a.is s)

pub start_refused_at : (w : KeptWorld) (c : ℕ) (x y : KeptClientPlace) (sent : List Message) (r : Refused) → IsAt w c x → y ≡ x → sent ≡ w.sent → IsRefused (starting_refusal c (place_of x)) (Unit {0}) r → Steps (meaning w) (step.StartClient c) (Err r) (meaning (record w { places = set w.places c y; sent = sent }))
start_refused_at w c x y sent r a e f d =
    places.start_refused (meaning w) (meaning (record w { places = set w.places c y; sent = sent })) c r a.low (unchanged_by w c y sent a.there (ap place_of (e ∙ a.is)) f)
    (subst (λ (z : KeptClientPlace). IsRefused (starting_refusal c (place_of z)) (Unit {0}) r) a.is d)

pub tick_at : (w : KeptWorld) (c : ℕ) (x : KeptClientPlace) (k : client_fields.KeptClient) (sent : List Message) → IsAt w c x → x.client ≡ Some k → Ticked (client_fields.meaning k) w.sent sent → Steps (meaning w) (step.Tick c) (Ok told.Done) (meaning (record w { sent = sent }))
tick_at w c x k sent a e t = places.ticked_steps (meaning w) (meaning (record w { sent = sent })) c (client_fields.meaning k) sent a.low (client_is w c x _ a (ap client_there e)) refl t

pub tick_memory_at : (w : KeptWorld) (c : ℕ) (x : KeptClientPlace) (k : client_fields.KeptClient) (sent : List Message) → IsAt w c x → x.client ≡ Some k → sent ≡ w.sent → Steps (meaning w) (step.Tick c) (Err refused.OutOfMemory) (meaning (record w { sent = sent }))
tick_memory_at w c x k sent a e f = places.tick_memory (meaning w) (meaning (record w { sent = sent })) c (client_fields.meaning k) a.low (client_is w c x _ a (ap client_there e)) (λ t. meaning (record w { sent = f t }))

pub tick_none_at : (w : KeptWorld) (c : ℕ) (x : KeptClientPlace) → IsAt w c x → x.client ≡ None → Steps (meaning w) (step.Tick c) (Err refused.Down) (meaning w)
tick_none_at w c x a e = places.tick_down (meaning w) (meaning w) c a.low (client_is w c x _ a (ap client_there e)) refl

-- the client of a number, for which the message is, read it
pub read_at : (w : KeptWorld) (at : ℕ) (m : ToClient) (c : ℕ) (x y : KeptClientPlace) (k next : client_fields.KeptClient) (sent : List Message) → m.client ≡ c → IsAt w c x → slice_get w.sent at ≡ Some (message.ToClient m) → y.last_incarnation ≡ x.last_incarnation → x.client ≡ Some k → y.client ≡ Some next → HasRead (client_fields.meaning k) m (client_fields.meaning next) w.sent sent → Steps (meaning w) (step.Deliver (suc at)) (Ok told.Done) (meaning (record w { places = set w.places c y; sent = sent }))
read_at w at m c x y k next sent same there f g e n r = subst (λ (i : ℕ). IsAt w i x → Steps (meaning w) (step.Deliver (suc at)) (Ok told.Done) (meaning (record w { places = set w.places i y; sent = sent }))) same own there
  where
    own : IsAt w m.client x → Steps (meaning w) (step.Deliver (suc at)) (Ok told.Done) (meaning (record w { places = set w.places m.client y; sent = sent }))
    own a = places.read_steps (meaning w) (meaning (record w { places = set w.places m.client y; sent = sent })) at m (client_fields.meaning k) (client_fields.meaning next) sent f (client_is w m.client x _ a (ap client_there e)) (gone_fields w m.client x y sent a.there a.is g ∙ ap (λ o. gone (meaning w) m.client (client_there o) sent) n) r

-- memory was refused, and nothing has changed
pub read_memory_at : (w : KeptWorld) (at : ℕ) (m : ToClient) (c : ℕ) (x : KeptClientPlace) (k next : client_fields.KeptClient) (sent : List Message) → m.client ≡ c → IsAt w c x → slice_get w.sent at ≡ Some (message.ToClient m) → x.client ≡ Some k → next ≡ k → sent ≡ w.sent → Steps (meaning w) (step.Deliver (suc at)) (Err refused.OutOfMemory) (meaning (record w { places = set w.places c (record x { client = Some next }); sent = sent }))
read_memory_at w at m c x k next sent same there f e g n = subst (λ (i : ℕ). IsAt w i x → Steps (meaning w) (step.Deliver (suc at)) (Err refused.OutOfMemory) (meaning (record w { places = set w.places i (record x { client = Some next }); sent = sent }))) same own there
  where
    own : IsAt w m.client x → Steps (meaning w) (step.Deliver (suc at)) (Err refused.OutOfMemory) (meaning (record w { places = set w.places m.client (record x { client = Some next }); sent = sent }))
    own a = places.read_memory (meaning w) (meaning (record w { places = set w.places m.client (record x { client = Some next }); sent = sent })) at m (client_fields.meaning k) f (client_is w m.client x _ a (ap client_there e))
        (unchanged_by w m.client (record x { client = Some next }) sent a.there ((λ t. place_of (record x { client = (ap (λ o. Some o) g ∙ sym e) t })) ∙ ap place_of a.is) n)

-- no client of the number runs
pub read_none_at : (w : KeptWorld) (at : ℕ) (m : ToClient) (c : ℕ) (x : KeptClientPlace) → m.client ≡ c → IsAt w c x → slice_get w.sent at ≡ Some (message.ToClient m) → x.client ≡ None → Steps (meaning w) (step.Deliver (suc at)) (Ok told.Done) (meaning (record w { places = set w.places c x }))
read_none_at w at m c x same there f e = subst (λ (i : ℕ). IsAt w i x → Steps (meaning w) (step.Deliver (suc at)) (Ok told.Done) (meaning (record w { places = set w.places i x }))) same own there
  where
    own : IsAt w m.client x → Steps (meaning w) (step.Deliver (suc at)) (Ok told.Done) (meaning (record w { places = set w.places m.client x }))
    own a = places.read_by_nobody (meaning w) (meaning (record w { places = set w.places m.client x })) at m f (client_is w m.client x _ a (ap client_there e)) (unchanged_by w m.client x w.sent a.there (ap place_of a.is) refl)

pub read_past : (w : KeptWorld) (at : ℕ) (m : ToClient) → length w.places ≤ m.client → slice_get w.sent at ≡ Some (message.ToClient m) → Steps (meaning w) (step.Deliver (suc at)) (Ok told.Done) (meaning w)
read_past w at m le f = places.read_by_nobody (meaning w) (meaning w) at m f (places.nobody_past w.places m.client le) refl
