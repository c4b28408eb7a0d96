-- A refusal's number is above 0 and has at most three digits. Assumes nothing.
use Prim.Native.Nat.{◌<◌}
use lib.Dec.{lit<}
use Rattle.refusals.specs.declared.Refusal.{Refusal}
use Rattle.refusals.specs.declared.Refusal.TheVariants.{Width, Height, ConcreteClass, SteelStrength, LayerCount, LayerDepth, LayerArea}
use Rattle.refusals.specs.declared.Refusal.TheVariants.{AxialForce, BendingMoment, ShearForce}
use Rattle.refusals.specs.declared.Refusal.TheVariants.{ForceTooLow, ForceTooHigh, DepthRange, MapCut, UnknownField, RecordCut, FieldMissing}
use Rattle.refusals.specs.declared.Refusal.TheVariants.{BufferTooShort, InputTooLong, LinkArea, LinkSpacing, LinksUnderForce, LayerSequence}
use Rattle.refusals.specs.declared.Refusal.TheVariants.{DesignSituation, LayerPlace, LongTermFactor}
use Rattle.refusals.specs.Number.{number_of}

pub number_small : (r : Refusal) → number_of r < 256
number_small Width = lit< tt
number_small Height = lit< tt
number_small ConcreteClass = lit< tt
number_small SteelStrength = lit< tt
number_small LayerCount = lit< tt
number_small LayerDepth = lit< tt
number_small LayerArea = lit< tt
number_small AxialForce = lit< tt
number_small BendingMoment = lit< tt
number_small ShearForce = lit< tt
number_small ForceTooLow = lit< tt
number_small ForceTooHigh = lit< tt
number_small DepthRange = lit< tt
number_small MapCut = lit< tt
number_small UnknownField = lit< tt
number_small RecordCut = lit< tt
number_small FieldMissing = lit< tt
number_small BufferTooShort = lit< tt
number_small InputTooLong = lit< tt
number_small LinkArea = lit< tt
number_small LinkSpacing = lit< tt
number_small LinksUnderForce = lit< tt
number_small LayerSequence = lit< tt
number_small DesignSituation = lit< tt
number_small LayerPlace = lit< tt
number_small LongTermFactor = lit< tt

pub number_above_0 : (r : Refusal) → 0 < number_of r
number_above_0 Width = lit< tt
number_above_0 Height = lit< tt
number_above_0 ConcreteClass = lit< tt
number_above_0 SteelStrength = lit< tt
number_above_0 LayerCount = lit< tt
number_above_0 LayerDepth = lit< tt
number_above_0 LayerArea = lit< tt
number_above_0 AxialForce = lit< tt
number_above_0 BendingMoment = lit< tt
number_above_0 ShearForce = lit< tt
number_above_0 ForceTooLow = lit< tt
number_above_0 ForceTooHigh = lit< tt
number_above_0 DepthRange = lit< tt
number_above_0 MapCut = lit< tt
number_above_0 UnknownField = lit< tt
number_above_0 RecordCut = lit< tt
number_above_0 FieldMissing = lit< tt
number_above_0 BufferTooShort = lit< tt
number_above_0 InputTooLong = lit< tt
number_above_0 LinkArea = lit< tt
number_above_0 LinkSpacing = lit< tt
number_above_0 LinksUnderForce = lit< tt
number_above_0 LayerSequence = lit< tt
number_above_0 DesignSituation = lit< tt
number_above_0 LayerPlace = lit< tt
number_above_0 LongTermFactor = lit< tt
