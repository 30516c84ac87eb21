-- How taps come by their groups: along their keys, sorted. No rule stands here.
use Rattle.std.specs.Prelude.{ℕ, zero, suc, ◌+◌, ◌*◌, ◌/◌, ◌%◌, ◌≤◌, ◌<◌, ◌≡◌, Bool, true, not, ◌&&◌, List, [], ◌∷◌, eqb, length, get_or}
use Rattle.base.specs.Views.{view}
use Rattle.board.specs.Board.{Board, field}
use Rattle.board.specs.Groups.{Tap}
use Rattle.board.specs.Tables.{tap_in}

-- The first m taps are of wires that are there.
abbrev pub Wired : List (List ℕ) → List (List ℕ) → ℕ → Type 0
Wired wires taps m = (k : ℕ) → k < m → field taps k 7 < length wires

-- The tap of wire w at target anchor t, before it has its group: its own wire stands there.
abbrev pub new_tap : (nodes facts : List (List ℕ)) → ℕ → (wire : List ℕ) → ℕ → List ℕ
new_tap nodes facts w wire t = field nodes t 10 ∷ w ∷ field facts t 0 ∷ field nodes t 9 ∷ field nodes t 8 ∷ get_or wire 3 0 ∷ get_or wire 4 0 ∷ w ∷ []

-- What taps of one group have in common: the page, and the source node and port of their wires.
abbrev pub tap_key : List (List ℕ) → List ℕ → List ℕ
tap_key wires tap = get_or tap 0 0 ∷ field wires (get_or tap 7 0) 1 ∷ field wires (get_or tap 7 0) 2 ∷ []

abbrev pub key_of : List (List ℕ) → List (List ℕ) → ℕ → List ℕ
key_of wires taps k = tap_key wires (get_or taps k [])

abbrev pub same_tap_key : List (List ℕ) → List ℕ → List ℕ → Bool
same_tap_key wires a b =
    eqb (get_or a 0 0) (get_or b 0 0) && eqb (field wires (get_or a 7 0) 1) (field wires (get_or b 7 0) 1)
    && eqb (field wires (get_or a 7 0) 2) (field wires (get_or b 7 0) 2)

abbrev pub same_key : List (List ℕ) → List (List ℕ) → ℕ → ℕ → Bool
same_key wires taps j k = same_tap_key wires (get_or taps j []) (get_or taps k [])

-- A key in one number below 2^42. Keys that are in an accepted board's ranges differ where they are packed, too; of others this need not be so.
abbrev pub packed : List ℕ → ℕ
packed key = (get_or key 1 0 % 1048576 * 65536 + get_or key 2 0 % 65536) * 64 + get_or key 0 0 % 64

-- How many numbers of taps there are: a tap's number stands behind its packed key.
abbrev pub NUMBERS : ℕ
NUMBERS = 8192

-- The tap that comes p-th.
abbrev pub tap_at : List ℕ → ℕ → ℕ
tap_at keys p = get_or keys p 0 % NUMBERS

-- Whether the key that comes p-th is another than the one before.
unfoldable pub starts_run : List ℕ → ℕ → Bool
starts_run keys zero = true
starts_run keys (suc p) = not (eqb (get_or keys p 0 / NUMBERS) (get_or keys (suc p) 0 / NUMBERS))

-- No tap before j has its key.
abbrev pub First : (ℕ → List ℕ) → ℕ → Type 0
First key j = (i : ℕ) → i < j → key i ≡ key j → ⊥

-- g is the wire of the first tap with the key of tap k.
abbrev pub Leads : (ℕ → List ℕ) → (ℕ → ℕ) → ℕ → ℕ → Type 0
Leads key wire k g = (j : ℕ) → key j ≡ key k → First key j → g ≡ wire j

-- The same of a table of taps.
abbrev pub LeadsIn : List (List ℕ) → List (List ℕ) → ℕ → ℕ → Type 0
LeadsIn wires taps k g = Leads (key_of wires taps) (λ j. field taps j 7) k g

-- The first m taps come in the order of their packed keys: where a run of these starts, no tap before has the key.
pub record Runs (wires taps : List (List ℕ)) (keys : List ℕ) (m : ℕ) : Type 0 where
  pub room : m ≤ length keys
  pub rows : m ≤ length taps
  pub wired : Wired wires taps m
  pub within : (p : ℕ) → p < m → tap_at keys p < m
  pub reaches : (k : ℕ) → k < m → (p : ℕ) × (p < m) × (tap_at keys p ≡ k)
  pub begins : (p : ℕ) → p < m → starts_run keys p ≡ true → First (key_of wires taps) (tap_at keys p)

-- The first m taps have their groups, and are else as they were.
pub record Shared (wires old new : List (List ℕ)) (m : ℕ) : Type 0 where
  pub kept : (k c : ℕ) → k < m → c < 8 → (c ≡ 1 → ⊥) → field new k c ≡ field old k c
  pub groups : (k : ℕ) → k < m → LeadsIn wires new k (field new k 1)

-- The first m rows are these taps, once they have their groups.
abbrev pub Appended : Board → List (List ℕ) → ℕ → List Tap → Type 0
Appended b taps m ts = (new : List (List ℕ)) → Shared b.wires taps new m → view tap_in new m ≡ ts
