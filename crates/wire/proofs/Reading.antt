-- What is written is read back as it was.
use Rattle.std.proofs.Common.{◌≡◌, ℕ, ◌+◌, ◌*◌, ◌/◌, ◌%◌, ◌^◌, ◌<◌, ◌≤◌, true, List, [], ◌++◌, length, Some, sym, refl, ap, ◌∙◌, arith, length-append}
use Rattle.std.proofs.lemmas.Bool.{cond-true, and_from, eq-eqb, le-leb}
use Rattle.std.proofs.lemmas.List.{take_at, drop_at, append-nil}
use Rattle.model.specs.Receiver.{Said}
use Rattle.wire.proofs.Eight.{eight_back}
use Rattle.wire.specs.Fits.{SaidFits, KeyFits, PacketFits}
use Rattle.wire.specs.Formats.{Key, Packet, key_part, key_part_in, said_bytes, said_in, behind_text, has_form, packet_in, message_encoded, read_message, key_encoded, read_key, delivery_encoded, read_delivery, tick_encoded, read_tick, air_event, message_event, key_event}

pub two_back : (n : ℕ) → n / 256 * 256 + n % 256 ≡ n
two_back n = omega arith

pub said_back : (k : ℕ) (s : Said) (rest : List ℕ) → said_in (said_bytes k s ++ rest) ≡ s
said_back k s rest = rw (two_back s.interval, take_at s.text rest (length s.text) refl)

pub behind_back : (k : ℕ) (s : Said) (rest : List ℕ) → behind_text (said_bytes k s ++ rest) ≡ rest
behind_back k s rest = drop_at s.text rest (length s.text) refl

pub key_part_back : (k : Key) → key_part_in (key_part k) ≡ k
key_part_back k = rw (two_back k.interval)

-- the form of what begins as a message or a delivery does
pub form_of : (k : ℕ) (s : Said) (rest : List ℕ) (n : ℕ) → length s.text ≤ 200 → length rest + 5 ≡ n → has_form k n (said_bytes k s ++ rest) ≡ true
form_of k s rest n h e =
    and_from _ _ (eq-eqb k k refl) (and_from _ _ (le-leb _ 200 h) (eq-eqb _ _ (omega (arith, length-append s.text rest))))

pub packet_back : (x : Packet) → PacketFits x → packet_in (message_encoded x) ≡ x
packet_back x f =
    let s = x.message.says in
    let rest = x.message.tag ++ key_part x.behind in
    rw (said_back 1 s rest, behind_back 1 s rest, take_at x.message.tag (key_part x.behind) 16 f.tag, drop_at x.message.tag (key_part x.behind) 16 f.tag, key_part_back x.behind)

pub message_form : (x : Packet) → PacketFits x → has_form 1 55 (message_encoded x) ≡ true
message_form x f =
    let key_length : length x.behind.key ≡ 32 = f.behind.key in
    form_of 1 x.message.says (x.message.tag ++ key_part x.behind) 55 f.says.text (omega (arith, length-append x.message.tag (key_part x.behind), f.tag, key_length))

pub message_back : (x : Packet) → PacketFits x → read_message (message_encoded x) ≡ Some x
message_back x f = cond-true _ _ _ (message_form x f) ∙ ap (λ y. Some y) (packet_back x f)

pub message_event_lem : (x : Packet) → PacketFits x → air_event (message_encoded x) ≡ Some (message_event x)
message_event_lem x f = cond-true _ _ _ (message_form x f) ∙ ap (λ y. Some (message_event y)) (packet_back x f)

pub key_event_lem : (k : Key) → KeyFits k → air_event (key_encoded k) ≡ Some (key_event k)
key_event_lem k f = cond-true _ _ _ (eq-eqb (length (key_encoded k)) 35 (omega (arith, f.key))) ∙ ap (λ y. Some (key_event y)) (key_part_back k)

pub delivery_back : (s : Said) → SaidFits s → read_delivery (delivery_encoded s) ≡ Some s
delivery_back s f =
    let e : said_bytes 16 s ++ [] ≡ delivery_encoded s = rw (append-nil s.text) in
    let form : has_form 16 5 (delivery_encoded s) ≡ true = ap (has_form 16 5) (sym e) ∙ form_of 16 s [] 5 f.text refl in
    cond-true _ _ _ form ∙ ap (λ y. Some y) (ap said_in (sym e) ∙ said_back 16 s [])

pub key_back : (k : Key) → KeyFits k → read_key (key_encoded k) ≡ Some k
key_back k f = cond-true _ _ _ (eq-eqb (length (key_encoded k)) 35 (omega (arith, f.key))) ∙ ap (λ y. Some y) (key_part_back k)

pub tick_back : (t : ℕ) → t < 2 ^ 64 → read_tick (tick_encoded t) ≡ Some t
tick_back t h = ap (λ y. Some y) (eight_back t h)
