-- Demand 3: "Take two fresh ends, one ordered stream between them and a line that loses, repeats, delays and reorders copies but
-- alters and invents none." The two ends are the states of `link`; the rest of a world is the history that the demand speaks of.
use Rattle.std.specs.Prelude.{ℕ, ◌<◌, ◌≡◌, Bool, true, cond, List, [], ◌∷◌, eqb, Option, None}
use Rattle.terms.specs.declared.Sizes.{Sizes}
use Rattle.flight.specs.declared.SentPacket.{SentPacket}
use Rattle.ends.specs.State.{State}

-- the sizes of each end, and the id of the stream
pub record Pair : Type 0 where
  pub sending : Sizes
  pub receiving : Sizes
  pub stream : ℕ

-- "ends of one V and F"; V is a word and an id a byte, as their types say
pub record Alike (l : Pair) : Type 0 where
  pub one_version : l.receiving.version ≡ l.sending.version
  pub one_size : l.receiving.fragment_size ≡ l.sending.fragment_size
  pub version_word : l.sending.version < 65536
  pub stream_byte : l.stream < 256

-- a datagram that the sender wrote: a copy of the item at a position, "positions counted from 0", or of something else
pub record Copy : Type 0 where
  pub item : Option ℕ
  pub datagram : List ℕ

-- a packet number was taken, for the item at a position or for something else
pub record Mark : Type 0 where
  pub number : ℕ
  pub item : Option ℕ

-- what `dropped_packets` gave back: a record, a payload, and for which item that packet had been sent
pub record Back : Type 0 where
  pub item : Option ℕ
  pub sent : SentPacket
  pub payload : List ℕ

pub record World : Type 0 where
  pub sender : State
  pub receiver : State
  -- the payloads of the items sent on the stream: the item at position p is at place p
  pub sent : List (List ℕ)
  -- the packet numbers taken, what was given back, and every datagram written, each with the last first
  pub marks : List Mark
  pub back : List Back
  pub line : List Copy
  -- the payloads handed out on the stream, in order
  pub handed : List (List ℕ)
  -- the positions of which a copy was accepted
  pub accepted : List ℕ
  -- a take has found none, and no copy of an item has come since
  pub quiet : Bool

-- nothing has happened
abbrev pub start : State → State → World
start s r =
    record { sender = s; receiver = r; sent = []; marks = []; back = []; line = []; handed = []; accepted = []; quiet = true }

-- for which item the packet was sent that last took a number
unfoldable pub latest : ℕ → List Mark → Option ℕ
latest n [] = None
latest n (m ∷ ms) = cond (eqb m.number n) m.item (latest n ms)

-- what is given back or written where nothing is
abbrev pub no_back : Back
no_back = record { item = None; sent = record { ordering = 0; stream = 0; item = record { 0 = 0 } }; payload = [] }

abbrev pub no_copy : Copy
no_copy = record { item = None; datagram = [] }
