-- Name blocks: a count of two bytes, little-endian, at most 256, then two parallel arrays of cells, the keys and the values. A block has exactly its counted
-- length.
use Rattle.std.specs.Prelude.{ℕ, ◌+◌, ◌*◌, ◌%◌, Bool, true, false, not, ◌&&◌, ◌||◌, List, eqb, leb, length, take, cond, Option, option_map}
use Rattle.lists.specs.Lists.{part, all_below, first}
use Rattle.openrdson_core.specs.Bytes.{byte_at, same, zeros, unpad, name_ok, little}
use Rattle.openrdson_core.specs.declared.blocks.Cell.{Cell}
use Rattle.openrdson_core.specs.declared.blocks.Cell.TheVariants.{Number, Name, Figures, Ends}

-- how many bytes a cell has
abbrev pub width_of : Cell → ℕ
width_of Number = 2
width_of Name = 32
width_of Figures = 17
width_of Ends = 64

-- the flag byte of a stack entry: bit 0 height present, bit 1 thickness present, other bits 0
abbrev pub has_height : List ℕ → Bool
has_height c = eqb (byte_at c 0 % 2) 1

abbrev pub has_thickness : List ℕ → Bool
has_thickness c = leb 2 (byte_at c 0)

-- a stack entry: a flag byte, height, thickness; an absent figure is eight zero bytes
unfoldable pub figures_ok : List ℕ → Bool
figures_ok c = leb (byte_at c 0) 3 && (has_height c || zeros (part 1 8 c)) && (has_thickness c || zeros (part 9 8 c))

-- the name of a via's layer, or all zero: absent
unfoldable pub name_or_none : List ℕ → Bool
name_or_none c = zeros c || name_ok c

-- whether a cell is as its kind must be
abbrev pub cell_ok : Cell → List ℕ → Bool
cell_ok Number c = true
cell_ok Name c = name_ok c
cell_ok Figures c = figures_ok c
cell_ok Ends c = name_or_none (part 0 32 c) && name_or_none (part 32 32 c)

-- how many rows a block counts
abbrev pub count : List ℕ → ℕ
count s = little (part 0 2 s)

-- where value i of a block with keys k and values v starts
abbrev pub value_start : Cell → Cell → List ℕ → ℕ → ℕ
value_start k v s i = 2 + count s * width_of k + i * width_of v

-- key i of a block with keys k
abbrev pub key_at : Cell → List ℕ → ℕ → List ℕ
key_at k s i = part (2 + i * width_of k) (width_of k) s

-- value i of a block with keys k and values v
abbrev pub value_at : Cell → Cell → List ℕ → ℕ → List ℕ
value_at k v s i = part (value_start k v s i) (width_of v) s

-- the first eight bytes of a cell as a number, 0 where it has fewer
unfoldable pub head : List ℕ → ℕ
head c = cond (leb 8 (length c)) (little (take 8 c)) 0

-- no two of the n cells are the same
abbrev pub distinct : ℕ → (ℕ → List ℕ) → Bool
distinct n cell = all_below n (λ i. all_below i (λ j. not (same (cell j) (cell i))))

-- whether s is a block of keys k and values v, `once` where no key may stand twice
unfoldable pub block_ok : Cell → Cell → Bool → List ℕ → Bool
block_ok k v once s =
    leb (count s) 256
    && eqb (length s) (2 + count s * (width_of k + width_of v))
    && all_below (count s) (λ i. cell_ok k (key_at k s i))
    && all_below (count s) (λ i. cell_ok v (value_at k v s i))
    && (not once || distinct (count s) (key_at k s))

-- a block of layer names, of a layer map, of conductors or diffusions, and of vias; layer numbers and a map's logical names do not repeat
abbrev pub layer_names_ok : List ℕ → Bool
layer_names_ok s = block_ok Number Name true s

abbrev pub map_ok : List ℕ → Bool
map_ok s = block_ok Name Name true s

abbrev pub stack_ok : List ℕ → Bool
stack_ok s = block_ok Name Figures false s

abbrev pub vias_ok : List ℕ → Bool
vias_ok s = block_ok Name Ends false s

-- the first row whose key is the name
unfoldable pub row_of : List ℕ → List ℕ → Option ℕ
row_of s name = first (λ i. same (unpad (key_at Name s i)) name) (count s) 0

-- the value of that row
abbrev pub entry_of : Cell → List ℕ → List ℕ → Option (List ℕ)
entry_of v s name = option_map (value_at Name v s) (row_of s name)
