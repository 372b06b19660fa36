-- What a code of a link is of: that link, and the end that makes it.
use Rattle.std.specs.Prelude.{◌≡◌, List, ℕ, length, true}
use Rattle.presence_base.specs.Names.{is_node_name}
use Rattle.link_rules.specs.Keying.{answered, proved}
use Rattle.link_rules.specs.declared.keying.Challenged.{Challenged}

-- their nonces are as long as one another, as all are
pub record AreAlike (a b : Challenged) : Type 0 where
  pub first : length a.first.now ≡ length b.first.now
  pub second : length a.second.now ≡ length b.second.now

-- the nonces of both are the same, and who was dialled has one name
pub record AreOne (a b : Challenged) : Type 0 where
  pub first : a.first.now ≡ b.first.now
  pub second : a.second.now ≡ b.second.now
  pub dialled : a.dialled.now ≡ b.dialled.now

-- one text is that of one link's answer alone
abbrev pub AnswersApart : Type 0
AnswersApart = (a b : Challenged) → AreAlike a b → answered a ≡ answered b → AreOne a b

-- the names that were dialled are such
pub record AreNamed (a b : Challenged) : Type 0 where
  pub one : is_node_name a.dialled.now ≡ true
  pub other : is_node_name b.dialled.now ≡ true

-- one text is that of one link's proof alone, and of one node that dials
pub record IsOneProof (a b : Challenged) (v w : List ℕ) : Type 0 where
  pub link : AreOne a b
  pub who : v ≡ w

abbrev pub ProofsApart : Type 0
ProofsApart = (a b : Challenged) (v w : List ℕ) → AreAlike a b → AreNamed a b → proved a v ≡ proved b w → IsOneProof a b v w

-- no answer has the text of a proof
abbrev pub RolesApart : Type 0
RolesApart = (a b : Challenged) (w : List ℕ) → answered a ≡ proved b w → ⊥

pub record CodesAreApart : Type 0 where
  pub answers : AnswersApart
  pub proofs : ProofsApart
  pub roles : RolesApart
