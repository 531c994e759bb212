-- Pieces appended one after another.
use Rattle.std.proofs.Common.{◌≡◌, ℕ, List, ◌++◌, ap, ◌∙◌, append_assoc}

pub joined_two : (b b1 b2 x y : List ℕ) → b1 ≡ b ++ x → b2 ≡ b1 ++ y → b2 ≡ b ++ (x ++ y)
joined_two b b1 b2 x y e f = f ∙ ap (λ (l : List ℕ). l ++ y) e ∙ append_assoc b x y

pub joined_three : (b b1 b2 b3 x y z : List ℕ) → b1 ≡ b ++ x → b2 ≡ b1 ++ y → b3 ≡ b2 ++ z → b3 ≡ b ++ (x ++ (y ++ z))
joined_three b b1 b2 b3 x y z e f g = joined_two b b1 b3 x (y ++ z) e (joined_two b1 b2 b3 y z f g)
