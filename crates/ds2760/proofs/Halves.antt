-- The upper half of thirty-two bytes, put in place. Assumes nothing.
use Rattle.std.proofs.Common.{◌≡◌, ℕ, List, [], ◌++◌, length, take, drop, ap, ◌∙◌, append-nil, arith}
use borrow.Rule.Slice.PartMut.{put_mid, mid_of, post_of}
use Rattle.std.proofs.lemmas.List.{take_all, drop_all, length-drop}

pub upper : (from into : List ℕ) → length from ≡ 32 → length into ≡ 32 → put_mid 16 16 into (mid_of 16 16 from) ≡ take 16 into ++ drop 16 from
upper from into p q =
    let all : take 16 (drop 16 from) ≡ drop 16 from = take_all 16 (drop 16 from) (omega (arith, length-drop 16 from)) in
    let none : post_of 16 16 into ≡ [] = drop_all 16 (drop 16 into) (omega (arith, length-drop 16 into)) in
    (λ i. take 16 into ++ (all i ++ none i)) ∙ ap (λ (l : List ℕ). take 16 into ++ l) (append-nil (drop 16 from))
