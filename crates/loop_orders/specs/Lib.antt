-- The order state itself is that of sql_meaning (OrderState). To be believed here: the views of
-- Walks. All are `abbrev`: a view computes on each form.
pub mod Walks
