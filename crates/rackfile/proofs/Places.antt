-- Where a well-formed rack file has what. Assumes nothing.
use Rattle.std.proofs.Common.{◌≡◌, ℕ, zero, suc, ◌+◌, ◌-◌, ◌*◌, ◌<◌, ◌≤◌, List, [], ◌∷◌, map, length, length-drop, take, drop, get_or, ap, ◌∙◌, mul_comm, mul-le-mul_left, mul-add, arith}
use Rattle.std.proofs.lemmas.List.{take_all, drop-drop, get_or-map, length-map}
use Rattle.std.proofs.lemmas.List.FromFn.{fill_by_all}
use Rattle.std.specs.List.{range_with_len}
use Rattle.std.specs.Simd.{first_chunks}
use Rattle.rackfile.specs.declared.Entry.{Entry}
use Rattle.rackfile.specs.Files.{WellFormed, Listed, count, width, entry_in, entries_in, listed}

-- the name of an entry lies within the file
pub name_within : (f : List ℕ) → WellFormed f → (i : ℕ) → i < count f → 2 + 8 * count f + width f * i + width f ≤ length f
name_within f form i h =
    let le : i + 1 ≤ count f = omega arith in
    omega (arith, form.whole, mul-le-mul_left (width f) le, mul-add (width f) i 1, mul-add (count f) 8 (width f), mul_comm (width f) (count f))

-- the address of an entry lies within the file
pub address_within : (f : List ℕ) → WellFormed f → (i : ℕ) → i < count f → 2 + 8 * i + 8 ≤ length f
address_within f form i h = omega (arith, form.whole, mul-add (count f) 8 (width f))

-- a chunk of n elements
chunk_at : (n k i : ℕ) (xs : List ℕ) (d : List ℕ) → i < k → get_or (first_chunks n k xs) i d ≡ take n (drop (n * i) xs)
chunk_at n zero i xs d h = absurd (omega arith)
chunk_at n (suc k) zero xs d h = ap (λ (m : ℕ). take n (drop m xs)) (let e : 0 ≡ n * 0 = omega arith in e)
chunk_at n (suc k) (suc i) xs d h =
    chunk_at n k i (drop n xs) d (omega arith)
    ∙ ap (take n) (drop-drop (n * i) n xs ∙ ap (λ (m : ℕ). drop m xs) (let e : n + n * i ≡ n * suc i = omega arith in e))

-- the bytes of an address are a chunk of what is behind the sizes
pub address_chunk : (k i : ℕ) (f : List ℕ) (d : List ℕ) → i < k → get_or (first_chunks 8 k (take (length f - 2) (drop 2 f))) i d ≡ take 8 (drop (2 + 8 * i) f)
address_chunk k i f d h =
    ap (λ (xs : List ℕ). get_or (first_chunks 8 k xs) i d) (take_all (length f - 2) (drop 2 f) (omega (arith, length-drop 2 f)))
    ∙ chunk_at 8 k i (drop 2 f) d h
    ∙ ap (take 8) (drop-drop (8 * i) 2 f)

-- entries that are the file's, place by place, are all of them
pub entries_by_all : (f : List ℕ) (es : List Entry) → length es ≡ count f → ((k : ℕ) (d : Entry) → k < count f → listed (get_or es k d) ≡ entry_in f k) → map listed es ≡ entries_in f
entries_by_all f [] long each = ap (λ (n : ℕ). map (entry_in f) (range_with_len 0 n)) long
entries_by_all f (e ∷ es) long each =
    let none : Listed = record { address = 0; name = [] } in
    fill_by_all (entry_in f) (map listed (e ∷ es)) (count f) none (length-map (e ∷ es) listed ∙ long)
    (λ k l. get_or-map listed (e ∷ es) k e none (omega arith) ∙ each k e l)
